mod Empty
mod Values
mod RawValues
