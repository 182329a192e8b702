mod Done
mod Contacts
