-- Lines cut from chunks, and what was given.
use Rattle.std.proofs.Common.{◌≡◌, ℕ, suc, ◌+◌, ◌-◌, ◌<◌, ◌≤◌, Bool, true, false, List, [], ◌∷◌, ◌++◌, length, take, take_all, drop, inl, inr, refl, sym, ap, ◌∙◌, subst, arith, append_assoc, append-nil, length-take, length-append, length-drop}
use Rattle.std.specs.Prelude.{Option, None, Some, IfSome, IsErrAnd, Result, Ok, Err}
use Rattle.std.specs.Io.KnownBytes.{Consumes, IsAtEnd}
use Rattle.std.proofs.KnownBytes.{Consumes-nil, Consumes-trans, Consumes-kept}
use Rattle.std.proofs.lemmas.Bool.Decides.{nat_tests}
use Rattle.std.proofs.lemmas.List.{drop-take, drop-drop, take-append-le, take-take}
use Rattle.std.proofs.lemmas.List.Elements.{All-nil, All-append}
use Rattle.std.proofs.lemmas.List.Splits.{slice_split_none, slice_split_at, length-slice_split}
use lib.Seq.{take-add}
use Rattle.std.proofs.Math.Seq.{take-append-add}
use Rattle.chaosd_io.specs.declared.fault.RunFault.{RunFault}
use Rattle.chaosd_io.specs.declared.fault.RunFault.TheVariants.{ReadFault, WriteFault, InputTooLong, NoMemory, BadScript, LinkFault, ClockFault}
use Rattle.chaosd_io.specs.Lines.{is_newline, pieces_of, all_but_last, without_empty_last, ended_lines, lines_of, IsMet}
use Rattle.chaosd_io.specs.Reader.{LinesView, Cuts, Refills, Gives, Done, GivesNext, GivesMore, GivesLast}
use Rattle.chaosd_io.proofs.Steps.{take_front, all_but_last-push, drops_empty_last, keeps_last}

-- ---- what is held

drop_past : (piece : List ℕ) (b : ℕ) (after : List ℕ) → drop (suc (length piece)) (piece ++ b ∷ after) ≡ after
drop_past [] b after = refl
drop_past (x ∷ xs) b after = drop_past xs b after

-- two parts that touch
pub joined : (bytes : List ℕ) (a b c : ℕ) → a ≤ b → b ≤ c
    → take (c - a) (drop a bytes) ≡ take (b - a) (drop a bytes) ++ take (c - b) (drop b bytes)
joined bytes a b c ab bc =
    ap (λ n. take n (drop a bytes)) (omega arith) ∙ take-add (b - a) (c - b) (drop a bytes)
    ∙ ap (λ l. take (b - a) (drop a bytes) ++ take (c - b) l)
    (drop-drop (b - a) a bytes ∙ ap (λ n. drop n bytes) (omega arith))

-- an empty part
pub nothing : (bytes : List ℕ) (at : ℕ) → take (at - at) (drop at bytes) ≡ []
nothing bytes at = let none : at - at ≡ 0 = omega arith in ap (λ n. take n (drop at bytes)) none

-- behind a line's end
pub rest_cut : (bytes piece after : List ℕ) (from to : ℕ) → from ≤ to → to ≤ length bytes
    → take (to - from) (drop from bytes) ≡ piece ++ 10 ∷ after
    → (from + length piece < to)
    × (take (to - (from + length piece + 1)) (drop (from + length piece + 1) bytes) ≡ after)
    × (take (length piece) (drop from bytes) ≡ piece)
rest_cut bytes piece after from to le fits whole =
    let long : to - from ≡ suc (length piece) + length after =
    omega
    (arith, ap length whole, length-take (to - from) (drop from bytes), length-drop from bytes, length-append piece (10 ∷ after)) in
    let dropped : drop (suc (length piece)) (drop from bytes) ≡ drop (from + length piece + 1) bytes =
    drop-drop (suc (length piece)) from bytes ∙ ap (λ k. drop k bytes) (omega arith) in (
      omega arith,
      ap (λ k. take k (drop (from + length piece + 1) bytes)) (omega arith) ∙ ap (take (length after)) (sym dropped)
          ∙ sym (drop-take (suc (length piece)) (length after) (drop from bytes))
          ∙ ap (λ k. drop (suc (length piece)) (take k (drop from bytes))) (sym long)
          ∙ ap (drop (suc (length piece))) whole ∙ drop_past piece 10 after,
      sym (take-take (length piece) (to - from) (drop from bytes) (omega arith)) ∙ ap (take (length piece)) whole
          ∙ take-append-le (length piece) piece (10 ∷ after) (omega arith)
          ∙ take_all (length piece) piece (omega arith),
    )

-- ---- lines

-- what is kept of a line with one piece more
front_more : (kept : ℕ) (a b piece : List ℕ) → take kept a ≡ take kept b
    → take kept (a ++ piece) ≡ take kept (b ++ piece)
front_more kept a b piece e =
    sym (take_front kept a piece) ∙ ap (λ l. take kept (l ++ piece)) e ∙ take_front kept b piece

-- the lines of what was read, where nothing of it waits
pieces_now : (kept limit : ℕ) (input rest : Option (List ℕ)) (given : List (List ℕ)) (v : LinesView) → v.waiting ≡ []
    → (s : Gives kept limit input rest given v) → pieces_of s.read ≡ given ++ s.begun ∷ []
pieces_now kept limit input rest given v none s =
    ap pieces_of (sym (append-nil s.read)) ∙ s.goes_on [] ∙ ap (λ w. given ++ pieces_of (s.begun ++ (w ++ []))) none
    ∙ ap (λ l. given ++ pieces_of l) (append-nil s.begun)
    ∙ ap (λ l. given ++ l) (slice_split_none is_newline s.begun s.unended)

-- all lines that ended were given
ended_now : (kept limit : ℕ) (input rest : Option (List ℕ)) (given : List (List ℕ)) (v : LinesView) → v.waiting ≡ []
    → (s : Gives kept limit input rest given v) → given ≡ ended_lines s.read
ended_now kept limit input rest given v none s =
    sym (ap all_but_last (pieces_now kept limit input rest given v none s) ∙ all_but_last-push given s.begun)

-- ---- cutting

pub none_given : (kept limit : ℕ) (input : Option (List ℕ)) (v : LinesView) → v.begun ≡ [] → v.waiting ≡ []
    → v.room ≡ limit → Gives kept limit input input [] v
none_given kept limit input v none waits room = record {
  read = [];
  begun = [];
  came = Consumes-nil _;
  room = omega (arith, room);
  front = ap (take kept) none;
  unended = All-nil _;
  goes_on = λ more. ap (λ w. pieces_of (w ++ more)) (sym waits);
}

pub next_given : (kept limit : ℕ) (input rest : Option (List ℕ)) (given : List (List ℕ)) (v v' : LinesView)
    (found : Bool)
    → Cuts v v' found → Gives kept limit input rest given v → GivesNext kept limit input rest given v' found
next_given kept limit input rest given v v' true (piece, clean, waits, line, none, room) s =
    let regroup : (more : List ℕ)
    → s.begun ++ ((piece ++ 10 ∷ v'.waiting) ++ more) ≡ (s.begun ++ piece) ++ 10 ∷ (v'.waiting ++ more) =
    λ more. ap (λ l. s.begun ++ l) (append_assoc piece (10 ∷ v'.waiting) more)
    ∙ sym (append_assoc s.begun piece (10 ∷ (v'.waiting ++ more))) in (
      s.begun ++ piece,
      ap (take kept) line ∙ front_more kept v.begun s.begun piece s.front,
      record {
        read = s.read;
        begun = [];
        came = s.came;
        room = ap (λ n. n + length s.read) room ∙ s.room;
        front = ap (take kept) none;
        unended = All-nil _;
        goes_on = λ more. s.goes_on more
            ∙ ap (λ w. given ++ pieces_of (s.begun ++ (w ++ more))) waits
            ∙ ap (λ l. given ++ pieces_of l) (regroup more)
            ∙ ap (λ l. given ++ l)
            (slice_split_at is_newline (s.begun ++ piece) 10 (v'.waiting ++ more)
            (All-append (λ b. is_newline b ≡ false) s.begun piece s.unended clean) refl)
            ∙ sym (append_assoc given ((s.begun ++ piece) ∷ []) (pieces_of (v'.waiting ++ more)));
      },
    )
next_given kept limit input rest given v v' false (clean, waits, begun, room) s = (
  record {
    read = s.read;
    begun = s.begun ++ v.waiting;
    came = s.came;
    room = ap (λ n. n + length s.read) room ∙ s.room;
    front = ap (take kept) begun ∙ front_more kept v.begun s.begun v.waiting s.front;
    unended = All-append (λ b. is_newline b ≡ false) s.begun v.waiting s.unended clean;
    goes_on =
        λ more. s.goes_on more ∙ ap (λ l. given ++ pieces_of l) (sym (append_assoc s.begun v.waiting more))
        ∙ ap (λ w. given ++ pieces_of ((s.begun ++ v.waiting) ++ (w ++ more))) (sym waits);
  },
  waits,
)

-- ---- reading on

-- more than the limit came
past_limit : (limit : ℕ) (input mid rest : Option (List ℕ)) (read over : List ℕ) (given : List (List ℕ))
    → Consumes input mid read → Consumes mid rest over → length read ≡ limit → 0 < length over
    → given ≡ ended_lines read → IfSome input (λ all. (limit < length all) × (given ≡ ended_lines (take limit all)))
past_limit limit None mid rest read over given c d full some e = tt
past_limit limit (Some x) None rest read over given c d full some e = absurd c
past_limit limit (Some x) (Some y) None read over given c d full some e = absurd d
past_limit limit (Some x) (Some y) (Some z) read over given c d full some e =
    let whole : x ≡ read ++ (over ++ z) = c ∙ ap (λ l. read ++ l) d in
    let front : take limit x ≡ read =
    ap (take limit) whole ∙ take-append-le limit read (over ++ z) (omega arith)
    ∙ take_all limit read (omega arith) in (
      omega (arith, ap length whole, length-append read (over ++ z), length-append over z),
      e ∙ ap ended_lines (sym front),
    )

kept_front : (kept limit : ℕ) (input rest : Option (List ℕ)) (given : List (List ℕ)) (v v' : LinesView)
    → v'.begun ≡ take kept v.begun → (s : Gives kept limit input rest given v) → take kept v'.begun ≡ take kept s.begun
kept_front kept limit input rest given v v' e s = ap (take kept) e ∙ take-take kept kept v.begun (omega arith) ∙ s.front

pub more_given : (kept limit : ℕ) (input mid rest : Option (List ℕ)) (given : List (List ℕ)) (v v' : LinesView)
    (end : Result Bool RunFault)
    → v.waiting ≡ [] → Refills kept mid rest v v' end → Gives kept limit input mid given v
    → GivesMore kept limit input rest given v' end
more_given kept limit input mid rest given v v' (Ok true) none (came, some, begun, room) s = record {
  read = s.read ++ v'.waiting;
  begun = s.begun;
  came = Consumes-trans input mid rest s.read v'.waiting s.came came;
  room = omega (arith, length-append s.read v'.waiting, room, s.room);
  front = kept_front kept limit input mid given v v' begun s;
  unended = s.unended;
  goes_on =
      λ more. ap pieces_of (append_assoc s.read v'.waiting more) ∙ s.goes_on (v'.waiting ++ more)
      ∙ ap (λ w. given ++ pieces_of (s.begun ++ (w ++ (v'.waiting ++ more)))) none;
}
more_given kept limit input mid rest given v v' (Ok false) none (came, end, begun, waits, room) s = (
  record {
    read = s.read;
    begun = s.begun;
    came = subst (Consumes input rest) (append-nil s.read) (Consumes-trans input mid rest s.read [] s.came came);
    room = ap (λ n. n + length s.read) room ∙ s.room;
    front = kept_front kept limit input mid given v v' begun s;
    unended = s.unended;
    goes_on = λ more. s.goes_on more ∙ ap (λ w. given ++ pieces_of (s.begun ++ (w ++ more))) (none ∙ sym waits);
  },
  waits,
  end,
)
more_given kept limit input mid rest given v v' (Err ReadFault) none keeps s =
    (s.read, Consumes-kept input mid rest s.read s.came keeps, ended_now kept limit input mid given v none s)
more_given kept limit input mid rest given v v' (Err InputTooLong) none (full, over, some, came) s =
    past_limit limit input mid rest s.read over given s.came came (omega (arith, full, s.room)) some
    (ended_now kept limit input mid given v none s)
more_given kept limit input mid rest given v v' (Err WriteFault) none h s = absurd h
more_given kept limit input mid rest given v v' (Err NoMemory) none h s = absurd h
more_given kept limit input mid rest given v v' (Err (BadScript number)) none h s = absurd h
more_given kept limit input mid rest given v v' (Err LinkFault) none h s = absurd h
more_given kept limit input mid rest given v v' (Err ClockFault) none h s = absurd h

-- ---- the end of the input

at_end : (limit : ℕ) (input rest : Option (List ℕ)) (read : List ℕ) (given : List (List ℕ)) → Consumes input rest read
    → IsAtEnd rest → length read ≤ limit → lines_of read ≡ given
    → IfSome input (λ all. (length all ≤ limit) × (lines_of all ≡ given))
at_end limit None rest read given c end few e = tt
at_end limit (Some x) None read given c end few e = absurd c
at_end limit (Some x) (Some z) read given c end few e =
    let same : x ≡ read = c ∙ ap (λ l. read ++ l) end ∙ append-nil read in
    (omega (arith, ap length same), ap lines_of same ∙ e)

done_by : (kept limit : ℕ) (input rest : Option (List ℕ)) (given lines : List (List ℕ)) (v : LinesView) → v.waiting ≡ []
    → IsAtEnd rest → (s : Gives kept limit input rest given v)
    → without_empty_last (given ++ s.begun ∷ []) ≡ lines → Done limit input rest lines
done_by kept limit input rest given lines v none end s e = record {
  lines =
      at_end limit input rest s.read lines s.came end (omega (arith, s.room))
      (ap without_empty_last (pieces_now kept limit input rest given v none s) ∙ e);
  ended = end;
}

-- nothing stands after the last end of a line
pub none_last : (kept limit : ℕ) (input rest : Option (List ℕ)) (given : List (List ℕ)) (v : LinesView) → 0 < kept
    → v.waiting ≡ [] → length v.begun ≡ 0 → Gives kept limit input rest given v → IsAtEnd rest
    → GivesLast kept limit input rest given None
none_last kept limit input rest given v some none empty s end =
    let short : length s.begun ≡ 0 =
    omega (arith, ap length s.front, length-take kept v.begun, length-take kept s.begun) in
    done_by kept limit input rest given given v none end s
    (drops_empty_last given s.begun (grind (arith, nat_tests, short)))

-- the last line has no end
pub one_last : (kept limit : ℕ) (input rest : Option (List ℕ)) (given : List (List ℕ)) (v : LinesView) → 0 < kept
    → v.waiting ≡ [] → 0 < length v.begun → Gives kept limit input rest given v → IsAtEnd rest
    → GivesLast kept limit input rest given (Some v.begun)
one_last kept limit input rest given v some none long s end =
    let more : 0 < length s.begun =
    omega (arith, ap length s.front, length-take kept v.begun, length-take kept s.begun) in
    (s.begun, s.front, done_by kept limit input rest given (given ++ s.begun ∷ []) v none end s (keeps_last given s.begun (grind (arith, nat_tests, more))))

-- ---- what reading on answered

pub more_came : (kept limit : ℕ) (input rest : Option (List ℕ)) (given : List (List ℕ)) (v : LinesView) (more : Bool)
    → more ≡ true → GivesMore kept limit input rest given v (Ok more) → Gives kept limit input rest given v
more_came kept limit input rest given v true e gives = gives
more_came kept limit input rest given v false e gives = gives.0

pub none_came : (kept limit : ℕ) (input rest : Option (List ℕ)) (given : List (List ℕ)) (v : LinesView) (more : Bool)
    → more ≡ false → GivesMore kept limit input rest given v (Ok more)
    → Gives kept limit input rest given v × (v.waiting ≡ []) × IsAtEnd rest
none_came kept limit input rest given v true e gives = absurd (cc)
none_came kept limit input rest given v false e gives = gives

-- what is said of a fault is said of the one that is told
pub told : {X : Type 0} (r : Result X RunFault) (e f : RunFault) (P : RunFault → Type 0) → IsErrAnd r (λ y. y ≡ e)
    → r ≡ Err f → P e → P f
told (Ok x) e f P is same p = absurd is
told (Err y) e f P is same p = let this : e ≡ f = cc in subst P this p

pub if_some : (known : Option (List ℕ)) (P Q : List ℕ → Type 0) → ((l : List ℕ) → P l → Q l) → IfSome known P
    → IfSome known Q
if_some None P Q f p = tt
if_some (Some l) P Q f p = f l p

-- ---- the place of a line

last_of_more : (ended more : List (List ℕ)) (line : List ℕ) → 0 < length more
    → without_empty_last (ended ++ line ∷ more) ≡ ended ++ line ∷ without_empty_last more
last_of_more [] [] line some = absurd (omega (arith, some))
last_of_more [] (first ∷ others) line some = refl
last_of_more (one ∷ []) more line some = ap (λ l. one ∷ l) (last_of_more [] more line some)
last_of_more (one ∷ next ∷ others) more line some = ap (λ l. one ∷ l) (last_of_more (next ∷ others) more line some)

but_last_of_more : (ended more : List (List ℕ)) (line : List ℕ) → 0 < length more
    → all_but_last (ended ++ line ∷ more) ≡ ended ++ line ∷ all_but_last more
but_last_of_more [] [] line some = absurd (omega (arith, some))
but_last_of_more [] (first ∷ others) line some = refl
but_last_of_more (one ∷ []) more line some = ap (λ l. one ∷ l) (but_last_of_more [] more line some)
but_last_of_more (one ∷ next ∷ others) more line some =
    ap (λ l. one ∷ l) (but_last_of_more (next ∷ others) more line some)

-- a line that was given, behind these
abbrev pub IsGiven : ℕ → List (List ℕ) → List ℕ → List ℕ → Type 0
IsGiven limit given raw all =
    (more : List (List ℕ)) × (lines_of all ≡ given ++ raw ∷ more) × IsMet limit (length given + 1) all

pieces_on : (kept limit : ℕ) (input rest : Option (List ℕ)) (given : List (List ℕ)) (raw : List ℕ) (v : LinesView)
    → (s : Gives kept limit input rest (given ++ raw ∷ []) v) → (z : List ℕ)
    → pieces_of (s.read ++ z) ≡ given ++ raw ∷ pieces_of (s.begun ++ (v.waiting ++ z))
pieces_on kept limit input rest given raw v s z =
    s.goes_on z ∙ append_assoc given (raw ∷ []) (pieces_of (s.begun ++ (v.waiting ++ z)))

pub given_met : (kept limit : ℕ) (input rest : Option (List ℕ)) (given : List (List ℕ)) (raw : List ℕ) (v : LinesView)
    → Gives kept limit input rest (given ++ raw ∷ []) v → IfSome input (IsGiven limit given raw)
given_met kept limit None rest given raw v s = tt
given_met kept limit (Some all) None given raw v s = absurd s.came
given_met kept limit (Some all) (Some z) given raw v s =
    let some : (l : List ℕ) → 0 < length (pieces_of l) = λ l. omega (arith, length-slice_split is_newline l) in
    let after : List ℕ = s.begun ++ (v.waiting ++ z) in
    let near : List ℕ = s.begun ++ (v.waiting ++ take v.room z) in
    let limited : take limit all ≡ s.read ++ take v.room z =
    ap (take limit) s.came ∙ ap (λ n. take n (s.read ++ z)) (sym s.room ∙ omega arith)
    ∙ take-append-add s.read z v.room in
    let ended : ended_lines (take limit all) ≡ given ++ raw ∷ all_but_last (pieces_of near) =
    ap ended_lines limited ∙ ap all_but_last (pieces_on kept limit (Some all) (Some z) given raw v s (take v.room z))
    ∙ but_last_of_more given (pieces_of near) raw (some near) in (
      without_empty_last (pieces_of after),
      ap lines_of s.came ∙ ap without_empty_last (pieces_on kept limit (Some all) (Some z) given raw v s z)
          ∙ last_of_more given (pieces_of after) raw (some after),
      inl (omega (arith, ap length ended, length-append given (raw ∷ all_but_last (pieces_of near)))),
    )

pub last_met : (limit : ℕ) (input rest : Option (List ℕ)) (given : List (List ℕ)) (raw : List ℕ)
    → Done limit input rest (given ++ raw ∷ []) → IfSome input (IsGiven limit given raw)
last_met limit input rest given raw done =
    if_some input (λ all. (length all ≤ limit) × (lines_of all ≡ given ++ raw ∷ [])) (IsGiven limit given raw)
    (λ all h. ([], h.1, inr h.0)) done.lines
