-- Each reply fits into a packet, in a session whose handles hold no more than the greatest file.
use Rattle.std.proofs.Common.{◌≤◌, ℕ, List, length, arith, length-append}
use Rattle.chaos_packet.specs.declared.limits.TheConstants.{MAX_DATA}
use Rattle.chaos_file.specs.declared.error.FileError.TheVariants as e
use Rattle.chaos_file.specs.Error.{error_text}
use Rattle.chaos_file.specs.Command.{ParsedView, tid_of, handle_of}
use Rattle.chaos_file.specs.Grammar.{parse_of}
use Rattle.chaos_file.specs.Answer.{reply_front}
use Rattle.chaos_file.specs.Session.{SessionView}
use Rattle.chaos_file.specs.Store.{Files}
use Rattle.chaos_file.proofs.Fitting.{AreSmall, error_fits, fits, front_fits}
use Rattle.file_net.specs.History.{Way, AsDefined, NoMemory, StoreFault, reply_by, session_by}

-- ---- a reply, however the command went

pub reply_fits : (m : Files) (s : SessionView) (command : List ℕ) (way : Way) → AreSmall s.handles
    → length (reply_by m s command way) ≤ MAX_DATA
reply_fits m s command AsDefined small = (fits m s command small).reply
reply_fits m s command NoMemory small =
    let p : ParsedView = parse_of command in
    let all = length-append (reply_front (tid_of p) (handle_of p)) (error_text e.NoMemory) in
    let front = front_fits command in
    let text = error_fits e.NoMemory in
    omega (arith, all, front, text)
reply_fits m s command StoreFault small =
    let p : ParsedView = parse_of command in
    let all = length-append (reply_front (tid_of p) (handle_of p)) (error_text e.StoreFault) in
    let front = front_fits command in
    let text = error_fits e.StoreFault in
    omega (arith, all, front, text)

pub session_small : (m : Files) (s : SessionView) (command : List ℕ) (way : Way) → AreSmall s.handles
    → AreSmall (session_by m s command way).handles
session_small m s command AsDefined small = (fits m s command small).small
session_small m s command NoMemory small = small
session_small m s command StoreFault small = small
