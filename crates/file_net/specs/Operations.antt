-- Files that are put, got, deleted and renamed, in a history that many clients share.
--
--    history    c2: WRITE    c1: OPEN READ    c2: CLOSE    c1: READ    c3: DELETE    c1: READ    c1: CLOSE
--                            ^                                                                    |
--                            c1 gets the file as of this moment  <--------------------------------+
--
--    history    c1: OPEN WRITE    c2: CLOSE    c1: WRITE    c3: OPEN READ    c1: WRITE    c2: RENAME    c1: CLOSE
--                                                                                                      ^
--                                         the file that c1 puts is there at this moment, and not before
--
-- A handle for reading holds a copy of the file from the moment of its OPEN. A handle for writing changes the files only at its
-- CLOSE.
use Rattle.std.specs.Prelude.{◌≡◌, List, [], ◌∷◌, ◌++◌, length, Some, ℕ, ◌+◌, false, true, ⊤}
use Rattle.std.specs.FinMap as map
use Rattle.chaos_file.specs.declared.limits.TheConstants.{MAX_NAME}
use Rattle.chaos_file.specs.Names.{is_name}
use Rattle.chaos_file.specs.Command.{OpenRead, Close}
use Rattle.chaos_file.specs.Spelling.{spelling_of}
use Rattle.chaos_file.specs.Store.{Files, is_there, with_moved}
use Rattle.chaos_lab.specs.declared.side.Side.TheVariants.{A}
use Rattle.chaos_net.specs.Net.{Name, Story}
use Rattle.file_copy.specs.Copy.{Tids, chunk_count, logged_in, put_front}
use Rattle.file_copy.specs.Ends.{delete_command, login_command, login_reply, rename_command}
use Rattle.file_copy.specs.Operation.{Operation, Put, Get, Delete, Rename, CanDo, CanDoAll, all_commands, all_replies, commands_of, replies_of}
use Rattle.file_lab.specs.Bodies.{data_bodies}
use Rattle.file_net.specs.History.{Transaction, Service, new_service, after_one, after_all, commands_by, replies_to}
use Rattle.file_net.specs.FileNet.{FileNet, FileReached}

-- The moment at which the server served a command of a connection: the history before the command, the command's transaction, and
-- the history after the command. Before that moment the server had served exactly these earlier commands of the connection. So a
-- history has at most one moment of a connection's first command, of its second command, and so on.
pub record Moment (history : List Transaction) (c : Name) (earlier : List (List ℕ)) (command : List ℕ) : Type 0 where
  pub before : List Transaction
  pub transaction : Transaction
  pub later : List Transaction
  pub is : history ≡ before ++ transaction ∷ later
  pub by : transaction.by ≡ c
  pub said : transaction.command ≡ command
  pub front : commands_by c before ≡ earlier

-- the files just before the server served the command of a moment, and just after
abbrev pub just_before : {history : List Transaction} {c : Name} {earlier : List (List ℕ)} {command : List ℕ} → Files
    → Moment history c earlier command → Files
just_before m at = (after_all (new_service m) at.before).files

abbrev pub just_after : {history : List Transaction} {c : Name} {earlier : List (List ℕ)} {command : List ℕ} → Files
    → Moment history c earlier command → Files
just_after m at = (after_one (after_all (new_service m) at.before) at.transaction).files

-- No transaction of this connection changes the files. Transactions of other connections may.
abbrev pub LeavesFiles : Name → Service → List Transaction → Type 0
LeavesFiles c v [] = ⊤
LeavesFiles c v (t ∷ history) =
    (t.by ≡ c → (after_one v t).files ≡ v.files) × LeavesFiles c (after_one v t) history

-- ---- what holds at a moment

-- Just before the OPEN of the get, the file at the path had exactly these bytes.
pub record IsGot (m : Files) (history : List Transaction) (c : Name) (earlier : List (List ℕ)) (tid : Tids)
    (handle path bytes : List ℕ) : Type 0 where
  pub at : Moment history c earlier (spelling_of (tid 0) handle (OpenRead path))
  pub file : map.get (just_before m at) path ≡ Some bytes

-- The CLOSE of the put made the file at the path exactly these bytes, and changed no other file. No earlier command of the
-- put changed any file.
pub record IsPut (m : Files) (history : List Transaction) (c : Name) (earlier : List (List ℕ)) (tid : Tids)
    (handle path bytes : List ℕ) : Type 0 where
  pub at : Moment history c (earlier ++ put_front tid handle path bytes (chunk_count (length bytes)))
      (spelling_of (tid (1 + chunk_count (length bytes))) handle Close)
  pub file : just_after m at ≡ map.insert (just_before m at) path bytes
  -- the history before the first command of the put, and the history from that command on
  pub front : List Transaction
  pub since : List Transaction
  pub parts : at.before ≡ front ++ since
  pub earlier_are : commands_by c front ≡ earlier
  pub alone : LeavesFiles c (after_all (new_service m) front) since

-- The DELETE took the file at the path away, and changed no other file. The file was there just before the DELETE.
pub record IsDeleted (m : Files) (history : List Transaction) (c : Name) (earlier : List (List ℕ)) (tid : ℕ) (path : List ℕ)
    : Type 0 where
  pub at : Moment history c earlier (delete_command tid path)
  pub there : is_there (just_before m at) path ≡ true
  pub file : just_after m at ≡ map.remove (just_before m at) path

-- The RENAME moved the file at the old path to the new path, and changed no other file. Just before the RENAME there was a file at
-- the old path, and no file at the new path.
pub record IsRenamed (m : Files) (history : List Transaction) (c : Name) (earlier : List (List ℕ)) (tid : ℕ)
    (old new : List ℕ) : Type 0 where
  pub at : Moment history c earlier (rename_command tid old new)
  pub there : is_there (just_before m at) old ≡ true
  pub free : is_there (just_before m at) new ≡ false
  pub file : just_after m at ≡ with_moved (just_before m at) old new

-- ---- a client

-- A connection of A that asked and was opened, and the connection of B that serves it.
pub record IsClient (f : FileNet) (a : Name) (s : Story) (c : Name) : Type 0 where
  pub there : (f.net A).story a ≡ Some s
  pub asked : s.asked ≡ true
  pub peer : s.peer ≡ Some c

-- Once the server has served exactly these earlier commands of the connection, the session is that of a user who is logged
-- in and has no file open, whatever other clients do.
abbrev pub IsReady : Files → FileNet → Name → List (List ℕ) → List ℕ → Type 0
IsReady m f c earlier name = (before later : List Transaction) → f.history ≡ before ++ later
    → commands_by c before ≡ earlier → (after_all (new_service m) before).session c ≡ logged_in name

-- The user wrote some earlier commands, and then these commands, and perhaps more. The user read as many replies as there
-- were earlier commands, and then these answers, and perhaps more.
pub record Talks (s : Story) (earlier replies commands answers : List (List ℕ)) : Type 0 where
  pub more_said : List (List ℕ)
  pub more_heard : List (List ℕ)
  pub said : data_bodies s.end.written ≡ earlier ++ (commands ++ more_said)
  pub heard : data_bodies s.end.read ≡ replies ++ (answers ++ more_heard)
  pub alike : length replies ≡ length earlier

-- ---- operations

-- A connection gave the commands of an operation after these earlier commands, and the server carried the operation out.
abbrev pub IsDone : Files → List Transaction → Name → List (List ℕ) → Operation → Type 0
IsDone m history c earlier (Put tid handle path bytes) = IsPut m history c earlier tid handle path bytes
IsDone m history c earlier (Get tid handle path bytes) = IsGot m history c earlier tid handle path bytes
IsDone m history c earlier (Delete tid path) = IsDeleted m history c earlier tid path
IsDone m history c earlier (Rename tid old new) = IsRenamed m history c earlier tid old new

-- all operations, one after another
abbrev pub AreDone : Files → List Transaction → Name → List (List ℕ) → List Operation → Type 0
AreDone m history c earlier [] = ⊤
AreDone m history c earlier (operation ∷ operations) =
    IsDone m history c earlier operation × AreDone m history c (earlier ++ commands_of operation) operations

-- ---- the laws

-- A client sends LOGIN, and then the commands of operations, one operation after another, and has read all replies, which report
-- success. Each file that the client got was the file at that path at the moment of the OPEN. Each file that the client put became
-- the file at that path, whole, at the moment of the CLOSE and by the CLOSE alone. Each DELETE took the file at its path away, and
-- each RENAME moved the file at its old path to its new path, at the moment of that command and by that command alone. All this
-- holds whatever other clients did meanwhile. After the operations the client is ready for another operation, and may write and read
-- more.
abbrev pub OperationsAmongOthers : Type 0
OperationsAmongOthers =
    (m : Files) (f : FileNet) (a c : Name) (s : Story) (name : List ℕ) (operations : List Operation)
    → FileReached m f → IsClient f a s c → is_name 1 MAX_NAME name ≡ true → CanDoAll operations
    → Talks s [] [] (login_command name ∷ all_commands operations) (login_reply name ∷ all_replies operations)
    → AreDone m f.history c (login_command name ∷ []) operations × IsReady m f c (login_command name ∷ all_commands operations) name

-- One operation of a client that is ready for an operation. After the operation the client is ready for another operation.
abbrev pub OperationAmongOthers : Type 0
OperationAmongOthers =
    (m : Files) (f : FileNet) (a c : Name) (s : Story) (name : List ℕ) (earlier replies : List (List ℕ))
    (operation : Operation) → FileReached m f → IsClient f a s c → CanDo operation
    → Talks s earlier replies (commands_of operation) (replies_of operation) → IsReady m f c earlier name
    → IsDone m f.history c earlier operation × IsReady m f c (earlier ++ commands_of operation) name

-- A client that has read the reply to LOGIN is ready for an operation.
abbrev pub LoginIsReady : Type 0
LoginIsReady =
    (m : Files) (f : FileNet) (a c : Name) (s : Story) (name : List ℕ) → FileReached m f → IsClient f a s c
    → is_name 1 MAX_NAME name ≡ true
    → Talks s [] [] (login_command name ∷ []) (login_reply name ∷ []) → IsReady m f c (login_command name ∷ []) name

-- A client has read as many replies as it wrote commands. Then the server served exactly the commands that the client wrote, each
-- once and in the client's order, and the client has read exactly the replies to these commands.
abbrev pub AnsweredOnce : Type 0
AnsweredOnce =
    (m : Files) (f : FileNet) (a c : Name) (s : Story) → FileReached m f → IsClient f a s c
    → length (data_bodies s.end.read) ≡ length (data_bodies s.end.written)
    → (commands_by c f.history ≡ data_bodies s.end.written) × (replies_to c f.history ≡ data_bodies s.end.read)
