-- How a copy ended, and what was sent and received in it.
use Rattle.std.specs.Prelude.{◌≡◌, ◌≤◌, ◌<◌, ◌⊎◌, nat_le, if◌then◌else◌, ℕ, zero, suc, ◌+◌, ◌-◌, ◌*◌, Bool, true, false, List, [], ◌∷◌, ◌++◌, codes, length, min, Option, Some, None, Result, Ok, Err}
use Rattle.std.specs.Fmt.{decimal}
use Rattle.chaos_file.specs.declared.limits.TheConstants.{MAX_CHUNK, MAX_FILE}
use Rattle.chaos_file.specs.Command.{Login, Read, Close, Rename, Delete}
use Rattle.chaos_file.specs.Spelling.{spelling_of}
use Rattle.chaos_file.specs.Answer.{Answer, LoggedIn, Opened, Given, Wrote, Closed, Renamed, Deleted, read_answer, reply_front}
use Rattle.chaos_node.specs.declared.fault.NodeFault.{NodeFault}
use Rattle.file_copy.specs.declared.end.CopyEnd.{CopyEnd}
use Rattle.file_copy.specs.declared.end.CopyEnd.TheVariants as e
use Rattle.file_copy.specs.Copy.{Tids, upto, chunk, chunk_count, reply_of, put_front, put_reply, put_front_replies, put_commands, get_front, get_front_replies, get_commands}
use Rattle.file_copy.specs.Talk.{History, Since, Received, received_in}
use Rattle.file_copy.specs.Row.{file_handle, put_command, request_command}

abbrev pub IfCopied : CopyEnd → Type 0 → Type 0
IfCopied e.Done P = P
IfCopied (e.Refused reply) P = Unit {0}
IfCopied (e.Strange reply) P = Unit {0}
IfCopied e.Unanswered P = Unit {0}
IfCopied e.Unknown P = Unit {0}

-- where the file was copied
abbrev pub IfDone : Result CopyEnd NodeFault → Type 0 → Type 0
IfDone (Ok end) P = IfCopied end P
IfDone (Err fault) P = Unit {0}

-- commands are named by numbers, from this one on
abbrev pub tids_from : ℕ → Tids
tids_from first = λ i. decimal (first + i)

-- LOGIN, and its reply
abbrev pub login_command : List ℕ → List ℕ
login_command name = spelling_of (decimal 0) [] (Login name)

abbrev pub login_reply : List ℕ → List ℕ
login_reply name = reply_of (decimal 0) [] (LoggedIn name)

-- RENAME and DELETE, and their replies
abbrev pub rename_command : ℕ → List ℕ → List ℕ → List ℕ
rename_command tid old new = spelling_of (decimal tid) [] (Rename old new)

abbrev pub rename_reply : ℕ → List ℕ
rename_reply tid = reply_of (decimal tid) [] Renamed

abbrev pub delete_command : ℕ → List ℕ → List ℕ
delete_command tid path = spelling_of (decimal tid) [] (Delete path)

abbrev pub delete_reply : ℕ → List ℕ
delete_reply tid = reply_of (decimal tid) [] Deleted

-- the commands of a put before its CLOSE, and their replies
abbrev pub put_sent : ℕ → List ℕ → List ℕ → ℕ → List ℕ
put_sent first path bytes i = request_command (put_command path bytes i) (first + i)

abbrev pub put_answer : List ℕ → ℕ → Answer
put_answer bytes zero = Opened 0
put_answer bytes (suc i) = Wrote (min (MAX_CHUNK * (1 + i)) (length bytes))

abbrev pub put_received : ℕ → List ℕ → ℕ → List ℕ
put_received first bytes i = reply_of (decimal (first + i)) file_handle (put_answer bytes i)

-- the commands of a get behind its OPEN: READs up to the one that is answered EOF, and CLOSE
abbrev pub get_sent : ℕ → ℕ → ℕ → List ℕ
get_sent first pieces i = request_command (if nat_le i pieces then Read else Close) (first + i)

-- the replies to the READs, and to CLOSE
abbrev pub read_received : ℕ → List ℕ → ℕ → List ℕ
read_received first bytes i = reply_of (decimal (first + i)) file_handle (read_answer (chunk bytes i))

abbrev pub close_received : ℕ → ℕ → List ℕ
close_received first len = reply_of (decimal (first + (1 + chunk_count len))) file_handle (Closed len)

-- ---- what was sent, however a copy ended

-- Of a put nothing was sent since then; or OPEN and some of the WRITEs, which change no file; or all of it, CLOSE too,
-- and then OPEN and each WRITE were answered as they should be.
abbrev pub PutBegun : {T : Type 0} → History T → History T → Tids → List ℕ → List ℕ → List ℕ → Type 0
PutBegun start now tid handle path bytes =
    ((replies : List (List ℕ)) × Since start now [] replies)
    ⊎ (((writes : ℕ) × (writes ≤ chunk_count (length bytes)) × (replies : List (List ℕ))
    × Since start now (put_front tid handle path bytes writes) replies)
    ⊎ ((last : List (List ℕ))
    × Since start now (put_commands tid handle path bytes)
    (put_front_replies tid handle bytes (chunk_count (length bytes)) ++ last)))

-- Of a get nothing was sent since then; or OPEN and some READs, no more than a file of FILE needs; or all that gets a
-- file of some such length.
abbrev pub GetBegun : {T : Type 0} → History T → History T → Tids → List ℕ → List ℕ → Type 0
GetBegun start now tid handle path =
    ((replies : List (List ℕ)) × Since start now [] replies)
    ⊎ (((len : ℕ) × (len ≤ MAX_FILE) × (reads : ℕ) × (reads ≤ 1 + chunk_count len) × (replies : List (List ℕ))
    × Since start now (get_front tid handle path reads) replies)
    ⊎ ((len : ℕ) × (len ≤ MAX_FILE) × (replies : List (List ℕ))
    × Since start now (get_commands tid handle path len) replies))

-- ---- how a copy ended that wasn't done

abbrev pub UnlessCopied : CopyEnd → (CopyEnd → Type 0) → Type 0
UnlessCopied e.Done P = Unit {0}
UnlessCopied (e.Refused reply) P = P (e.Refused reply)
UnlessCopied (e.Strange reply) P = P (e.Strange reply)
UnlessCopied e.Unanswered P = P e.Unanswered
UnlessCopied e.Unknown P = P e.Unknown

-- where a copy came to an end without a fault, and the file was not copied
abbrev pub UnlessDone : Result CopyEnd NodeFault → (CopyEnd → Type 0) → Type 0
UnlessDone (Ok end) P = UnlessCopied end P
UnlessDone (Err fault) P = Unit {0}

-- where no reply came
abbrev pub UnlessAnswered : CopyEnd → Type 0 → Type 0
UnlessAnswered e.Done P = Unit {0}
UnlessAnswered (e.Refused reply) P = Unit {0}
UnlessAnswered (e.Strange reply) P = Unit {0}
UnlessAnswered e.Unanswered P = P
UnlessAnswered e.Unknown P = P

-- where a copy came to an end without a fault since no reply came
abbrev pub IfUnanswered : Result CopyEnd NodeFault → Type 0 → Type 0
IfUnanswered (Ok end) P = UnlessAnswered end P
IfUnanswered (Err fault) P = Unit {0}

-- how a put ends where CLOSE got no reply, and was sent or wasn't
abbrev pub unanswered : Bool → CopyEnd
unanswered true = e.Unknown
unanswered false = e.Unanswered

-- an error reply to the command of this name
abbrev pub IsErrorTo : List ℕ → List ℕ → List ℕ → Type 0
IsErrorTo tid handle reply = (text : List ℕ) × (reply ≡ reply_front tid handle ++ (codes "ERROR " ++ text))

-- The copy ended by this reply to the command of this name, or by none, where some other was wanted.
abbrev pub EndedBy : List ℕ → List ℕ → (List ℕ → Type 0) → Option (List ℕ) → CopyEnd → Type 0
EndedBy tid handle Wanted last e.Done = ⊥
EndedBy tid handle Wanted last (e.Refused reply) = (last ≡ Some reply.items) × IsErrorTo tid handle reply.items
EndedBy tid handle Wanted last (e.Strange reply) =
    (last ≡ Some reply.items) × (IsErrorTo tid handle reply.items → ⊥) × (Wanted reply.items → ⊥)
EndedBy tid handle Wanted last e.Unanswered = last ≡ None
EndedBy tid handle Wanted last e.Unknown = ⊥

-- Since then these replies were received, and then the last, or none, by which the copy ended.
abbrev pub EndedAt : {T : Type 0} → History T → History T → List (List ℕ) → List ℕ → List ℕ → (List ℕ → Type 0) → CopyEnd
    → Type 0
EndedAt start now before tid handle Wanted end =
    (last : Option (List ℕ)) × Received start now (before ++ received_in last) × EndedBy tid handle Wanted last end

-- OPEN and some WRITEs were answered well, or nothing yet, and the put ended by the reply to the next.
abbrev pub WritesEnded : {T : Type 0} → History T → History T → ℕ → List ℕ → CopyEnd → Type 0
WritesEnded start now first bytes end = (i : ℕ) × (i < 1 + chunk_count (length bytes))
    × EndedAt start now (upto (put_received first bytes) i) (decimal (first + i)) file_handle
    (λ r. r ≡ put_received first bytes i) end

-- A put ended by the reply to OPEN; or OPEN was answered well, and it ended by the reply to a WRITE, and those before
-- it were answered well; or so were all, and it ended by the reply to CLOSE; or CLOSE was sent, got none, and whether
-- the file was put isn't known; or it could not be sent.
abbrev pub PutEnded : {T : Type 0} → History T → History T → Tids → List ℕ → List ℕ → List ℕ → CopyEnd → Type 0
PutEnded start now tid handle path bytes end =
    EndedAt start now [] (tid 0) handle (λ r. r ≡ reply_of (tid 0) handle (Opened 0)) end
    ⊎ (((i : ℕ) × (i < chunk_count (length bytes))
    × EndedAt start now (put_front_replies tid handle bytes i) (tid (1 + i)) handle
    (λ r. r ≡ put_reply tid handle bytes i) end)
    ⊎ (((reply : List ℕ)
    × Received start now (put_front_replies tid handle bytes (chunk_count (length bytes)) ++ reply ∷ [])
    × EndedBy (tid (1 + chunk_count (length bytes))) handle
    (λ r. r ≡ reply_of (tid (1 + chunk_count (length bytes))) handle (Closed (length bytes))) (Some reply) end)
    ⊎ (((end ≡ e.Unknown)
    × Since start now (put_commands tid handle path bytes)
    (put_front_replies tid handle bytes (chunk_count (length bytes))))
    ⊎ ((end ≡ e.Unanswered)
    × Since start now (put_front tid handle path bytes (chunk_count (length bytes)))
    (put_front_replies tid handle bytes (chunk_count (length bytes)))))))

-- the reply to the OPEN of a file of some length that FILE allows
abbrev pub IsOpened : List ℕ → List ℕ → List ℕ → Type 0
IsOpened tid handle reply = (len : ℕ) × (len ≤ MAX_FILE) × (reply ≡ reply_of tid handle (Opened len))

-- a reply to a READ that gives so many bytes
abbrev pub IsGiven : List ℕ → List ℕ → ℕ → List ℕ → Type 0
IsGiven tid handle size reply = (piece : List ℕ) × (length piece ≡ size) × (reply ≡ reply_of tid handle (Given piece))

-- the reply to a READ of a file of this length: as many bytes as its piece at this place has, and EOF behind the last
abbrev pub IsPiece : List ℕ → List ℕ → ℕ → ℕ → List ℕ → Type 0
IsPiece tid handle len i reply =
    (piece : List ℕ) × (length piece ≡ min (len - MAX_CHUNK * i) MAX_CHUNK)
    × (reply ≡ reply_of tid handle (read_answer piece))

-- Some READs gave these bytes, and the get ended by the reply to the next; or so did all, and it ended by the reply to CLOSE.
abbrev pub ReadsEnded : {T : Type 0} → History T → History T → ℕ → ℕ → List ℕ → CopyEnd → Type 0
ReadsEnded start now first len bytes end =
    ((i : ℕ) × (i ≤ chunk_count len)
    × EndedAt start now (upto (read_received first bytes) i) (decimal (first + i)) file_handle
    (IsPiece (decimal (first + i)) file_handle len i) end)
    ⊎ EndedAt start now (upto (read_received first bytes) (1 + chunk_count len)) (decimal (first + (1 + chunk_count len))) file_handle
    (λ r. r ≡ close_received first len) end

-- A get ended by the reply to OPEN; or that told a length, and some READs gave these bytes, and it ended by the reply
-- to the next; or so did all, and it ended by the reply to CLOSE.
abbrev pub GetEnded : {T : Type 0} → History T → History T → Tids → List ℕ → List ℕ → CopyEnd → Type 0
GetEnded start now tid handle bytes end =
    EndedAt start now [] (tid 0) handle (IsOpened (tid 0) handle) end
    ⊎ ((len : ℕ) × (len ≤ MAX_FILE)
    × (((i : ℕ) × (i ≤ chunk_count len)
    × EndedAt start now (get_front_replies tid handle len bytes i) (tid (1 + i)) handle
    (IsPiece (tid (1 + i)) handle len i) end)
    ⊎ EndedAt start now (get_front_replies tid handle len bytes (1 + chunk_count len)) (tid (2 + chunk_count len))
    handle
    (λ r. r ≡ reply_of (tid (2 + chunk_count len)) handle (Closed len)) end))
