-- What a user did over a connection.
--
--    start -- asks for a connection --> asked -- LOGIN, operation, operation, .. --> now
use Rattle.std.specs.Prelude.{◌≡◌, ◌⊎◌, ℕ, Bool, true, false, List, [], ◌∷◌, Some, option_map, ⊤}
use Rattle.std.specs.Borrow.{Bor}
use Rattle.file_copy.specs.Ends.{login_command, login_reply, tids_from}
use Rattle.file_copy.specs.Operation.{Operation, Delete, Get, Put, Rename, all_commands, all_replies, commands_of, replies_of}
use Rattle.file_copy.specs.Row.{file_handle}
use Rattle.file_copy.specs.Talk.{History, Since}
use Rattle.file_copy.specs.declared.talk.Talk as t
use Rattle.file_copy.specs.declared.login.Login.TheVariants.{Unsent}
use Rattle.file_copy.specs.declared.user.UserTalk.{UserTalk}
use Rattle.file_names.specs.declared.put_file.PutFile.{PutFile}

-- ---- the operations on one file, whose transaction ids begin at 1

abbrev pub get_of : List ℕ → List ℕ → Operation
get_of path bytes = Get (tids_from 1) file_handle path bytes

abbrev pub put_of : List ℕ → List ℕ → Operation
put_of path bytes = Put (tids_from 1) file_handle path bytes

abbrev pub delete_of : List ℕ → Operation
delete_of path = Delete 1 path

abbrev pub rename_of : List ℕ → List ℕ → Operation
rename_of old new = Rename 1 old new

-- ---- sessions

-- Exactly the commands of this operation were sent, and exactly the replies that report success were received.
abbrev pub Does : {T : Type 0} → (T → History T) → Operation → T → T → Type 0
Does talked operation old new = Since (talked old) (talked new) (commands_of operation) (replies_of operation)

-- A user who is logged in does nothing. Any other user asks for a connection, over which the LOGIN wasn't sent.
abbrev pub Enters : {T : Type 0} {ghosts : t.Ghosts T} → (T → T → Type 0) → Bool → List ℕ → UserTalk T ghosts → UserTalk T ghosts → Type 0
Enters connects true user old new = new ≡ old
Enters connects false user old new = connects old.talk new.talk × (new.login ≡ Unsent) × (new.name.now ≡ user)

module _ {T : Type 0} (talked : T → History T) (connects : T → T → Type 0) where
  -- From the first state on a connection was asked for, the user logged in over the connection, and exactly these operations were
  -- done.
  abbrev pub HasDone : List ℕ → T → List Operation → T → Type 0
  HasDone user start operations now = (asked : T) × connects start asked
      × Since (talked asked) (talked now) (login_command user ∷ all_commands operations) (login_reply user ∷ all_replies operations)

  -- A user who is logged in does this operation and nothing else. Any other user asks for a connection, logs in, and does this operation.
  abbrev pub EntersAnd : Bool → List ℕ → T → Operation → T → Type 0
  EntersAnd true user old operation new = Does talked operation old new
  EntersAnd false user old operation new = HasDone user old (operation ∷ []) new

  -- All these operations were done in one session. Without an operation nothing was done.
  abbrev pub DoesAll : List ℕ → T → List Operation → T → Type 0
  DoesAll user old [] new = new ≡ old
  DoesAll user old (operation ∷ operations) new = HasDone user old (operation ∷ operations) new

  -- Who is logged in now was logged in and did nothing, or entered and did one operation.
  abbrev pub Stays : Bool → List ℕ → T → Bool → T → Type 0
  Stays was_in user old is_in new =
      is_in ≡ true → ((was_in ≡ true) × (new ≡ old)) ⊎ ((operation : Operation) × EntersAnd was_in user old operation new)

-- ---- one operation for each file

-- For each of these files there is one operation, in their order.
abbrev pub ForEach : {F : Type 0} → (F → Operation → Type 0) → List F → List Operation → Type 0
ForEach One [] [] = ⊤
ForEach One [] (operation ∷ operations) = ⊥
ForEach One (file ∷ files) [] = ⊥
ForEach One (file ∷ files) (operation ∷ operations) = One file operation × ForEach One files operations

-- In one session exactly one operation was done for each of these files, in their order.
abbrev pub AllDone : {F T : Type 0} → (T → History T) → (T → T → Type 0) → (F → Operation → Type 0) → List ℕ → T → List F → T
    → Type 0
AllDone talked connects One user old files new =
    (operations : List Operation) × ForEach One files operations × DoesAll talked connects user old operations new

-- the file at this path was got
abbrev pub IsGet : Bor (List ℕ) → Operation → Type 0
IsGet path operation = (bytes : List ℕ) × (operation ≡ get_of path.now bytes)

-- bytes were put at the path that this file goes to
abbrev pub IsPut : PutFile → Operation → Type 0
IsPut file operation =
    (path bytes : List ℕ) × (option_map (λ p. p.items) file.path ≡ Some path) × (operation ≡ put_of path bytes)

-- the file at this path was deleted
abbrev pub IsDelete : Bor (List ℕ) → Operation → Type 0
IsDelete path operation = operation ≡ delete_of path.now
