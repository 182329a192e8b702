-- What was sent and received in a put.
use Rattle.std.proofs.Common.{◌≡◌, ℕ, suc, zero, ◌+◌, ◌*◌, ◌<◌, ◌≤◌, Bool, true, false, List, [], ◌∷◌, ◌++◌, length, Option, Some, None, refl, ap, ◌∙◌, sym, subst, arith, inl, inr}
use Rattle.std.specs.Prelude.{min}
use Rattle.std.specs.Fmt.{decimal}
use Rattle.std.proofs.lemmas.List.{append-nil}
use Rattle.chaos_file.specs.declared.limits.TheConstants.{MAX_CHUNK}
use Rattle.chaos_file.specs.Command.{OpenWrite, Write, Close}
use Rattle.chaos_file.specs.Spelling.{spelling_of}
use Rattle.chaos_file.specs.Answer.{Wrote, Closed, reply_front}
use Rattle.chaos_file.specs.Reply.{Answered, SaidView, said_text}
use Rattle.file_copy.specs.declared.end.CopyEnd.{CopyEnd}
use Rattle.file_copy.specs.Copy.{upto, chunk, chunk_count, reply_of, put_commands, put_replies, put_front, put_front_replies, put_reply}
use Rattle.file_copy.specs.Talk.{received_in, History, Since, Received, SentOrNot, SentUpTo, sent_if}
use Rattle.file_copy.specs.Row.{file_handle}
use Rattle.file_copy.specs.Ends.{EndedAt, EndedBy, PutBegun, PutEnded, UnlessCopied, WritesEnded, put_answer, put_received, put_sent, tids_from, unanswered}
use Rattle.file_copy.proofs.Ended.{received_then, unless_then}
use Rattle.file_copy.proofs.Joined.{next_tid, upto_same}
use Rattle.file_copy.proofs.Talks.{none_some, since_then}

-- the first of some, and the others
upto_first : {A : Type 0} (f : ℕ → A) (k : ℕ) → upto f (suc k) ≡ f 0 ∷ upto (λ i. f (suc i)) k
upto_first f zero = refl
upto_first f (suc k) = ap (λ l. l ++ f (suc k) ∷ []) (upto_first f k)

next : (first i : ℕ) → first + suc i ≡ first + (1 + i)
next first i = omega arith

next_count : (n : ℕ) → 1 + n ≡ suc n
next_count n = omega arith

-- OPEN and some WRITEs
pub front_sent : (first : ℕ) (path bytes : List ℕ) (k : ℕ)
    → upto (put_sent first path bytes) (suc k) ≡ put_front (tids_from first) file_handle path bytes k
front_sent first path bytes k =
    upto_first (put_sent first path bytes) k
    ∙ ap (λ l. put_sent first path bytes 0 ∷ l)
    (upto_same _ (λ i. spelling_of (tids_from first (1 + i)) file_handle (Write (chunk bytes i))) k
    (λ i m. ap (λ t. spelling_of (decimal t) file_handle (Write (chunk bytes i))) (next first i)))

pub front_received : (first : ℕ) (bytes : List ℕ) (k : ℕ)
    → upto (put_received first bytes) (suc k) ≡ put_front_replies (tids_from first) file_handle bytes k
front_received first bytes k =
    upto_first (put_received first bytes) k
    ∙ ap (λ l. put_received first bytes 0 ∷ l)
    (upto_same _ (put_reply (tids_from first) file_handle bytes) k
    (λ i m. ap (λ t. reply_of (decimal t) file_handle (Wrote (min (MAX_CHUNK * (1 + i)) (length bytes)))) (next first i)))

-- the reply that is hoped for at a place
pub put_wanted : (first i : ℕ) (bytes wanted : List ℕ) (said : SaidView)
    → wanted ≡ reply_front (decimal (first + i)) file_handle ++ said_text said → said ≡ Answered (put_answer bytes i)
    → wanted ≡ put_received first bytes i
put_wanted first i bytes wanted said e f = e ∙ ap (λ s. reply_front (decimal (first + i)) file_handle ++ said_text s) f

-- ---- however it ended

pub put_writing : {T : Type 0} (a b : History T) (first : ℕ) (path bytes : List ℕ)
    → SentUpTo a b (put_sent first path bytes) (1 + chunk_count (length bytes))
    → PutBegun a b (tids_from first) file_handle path bytes
put_writing a b first path bytes (zero, few, rs, h) = inl (rs, h)
put_writing a b first path bytes (suc k, few, rs, h) =
    inr (inl (k, omega (arith, few), rs, subst (λ cs. Since a b cs rs) (front_sent first path bytes k) h))

-- OPEN and all WRITEs were answered well
pub put_written : {T : Type 0} (a b : History T) (first : ℕ) (path bytes : List ℕ)
    → Since a b (upto (put_sent first path bytes) (1 + chunk_count (length bytes)))
    (upto (put_received first bytes) (1 + chunk_count (length bytes)))
    → Since a b (put_front (tids_from first) file_handle path bytes (chunk_count (length bytes)))
    (put_front_replies (tids_from first) file_handle bytes (chunk_count (length bytes)))
put_written a b first path bytes h =
    let n = chunk_count (length bytes) in
    subst (λ cs. Since a b cs (put_front_replies (tids_from first) file_handle bytes n))
    (ap (upto (put_sent first path bytes)) (next_count n) ∙ front_sent first path bytes n)
    (subst (λ rs. Since a b (upto (put_sent first path bytes) (1 + n)) rs)
    (ap (upto (put_received first bytes)) (next_count n) ∙ front_received first bytes n) h)

pub put_closing : {T : Type 0} (a b c : History T) (first : ℕ) (path bytes : List ℕ)
    → Since a b (put_front (tids_from first) file_handle path bytes (chunk_count (length bytes)))
    (put_front_replies (tids_from first) file_handle bytes (chunk_count (length bytes)))
    → SentOrNot b c (spelling_of (decimal (first + 1 + chunk_count (length bytes))) file_handle Close)
    → PutBegun a c (tids_from first) file_handle path bytes
put_closing a b c first path bytes h (rs, inl g) =
    let n = chunk_count (length bytes) in
    inr (inl (
      n,
      omega arith,
      put_front_replies (tids_from first) file_handle bytes n ++ rs,
      subst (λ cs. Since a c cs (put_front_replies (tids_from first) file_handle bytes n ++ rs))
          (append-nil (put_front (tids_from first) file_handle path bytes n))
          (since_then a b c _ _ [] rs h g),
    ))
put_closing a b c first path bytes h (rs, inr g) =
    let n = chunk_count (length bytes) in
    inr (inr (
      rs,
      since_then a b c _ _ (spelling_of (tids_from first (1 + n)) file_handle Close ∷ []) rs h
          (subst (λ t. Since b c (spelling_of (decimal t) file_handle Close ∷ []) rs) (next_tid first n) g),
    ))

pub put_done : {T : Type 0} (a b c : History T) (first : ℕ) (path bytes : List ℕ)
    → Since a b (put_front (tids_from first) file_handle path bytes (chunk_count (length bytes)))
    (put_front_replies (tids_from first) file_handle bytes (chunk_count (length bytes)))
    → Since b c (spelling_of (decimal (first + 1 + chunk_count (length bytes))) file_handle Close ∷ [])
    (reply_of (decimal (first + 1 + chunk_count (length bytes))) file_handle (Closed (length bytes)) ∷ [])
    → Since a c (put_commands (tids_from first) file_handle path bytes) (put_replies (tids_from first) file_handle bytes)
put_done a b c first path bytes h k =
    let n = chunk_count (length bytes) in
    since_then a b c (put_front (tids_from first) file_handle path bytes n) (put_front_replies (tids_from first) file_handle bytes n)
    (spelling_of (tids_from first (1 + n)) file_handle Close ∷ [])
    (reply_of (tids_from first (1 + n)) file_handle (Closed (length bytes)) ∷ []) h
    (subst (λ t. Since b c (spelling_of (decimal t) file_handle Close ∷ []) (reply_of (decimal t) file_handle (Closed (length bytes)) ∷ []))
    (next_tid first n) k)

-- ---- how a put ended that wasn't done

pub writes_not_done : {T : Type 0} (a b : History T) (cs : List (List ℕ)) (first i : ℕ) (bytes wanted : List ℕ)
    (last : Option (List ℕ)) (end : CopyEnd)
    → i < 1 + chunk_count (length bytes)
    → wanted ≡ put_received first bytes i → Since a b cs (upto (put_received first bytes) i ++ received_in last)
    → UnlessCopied end (EndedBy (decimal (first + i)) file_handle (λ r. r ≡ wanted) last)
    → UnlessCopied end (WritesEnded a b first bytes)
writes_not_done a b cs first i bytes wanted last end below same h =
    unless_then end _ _
    (λ k.
    (i, below, (last, (cs, h), subst (λ w. EndedBy (decimal (first + i)) file_handle (λ r. r ≡ w) last end) same k)))

put_ended_writing : {T : Type 0} (a b : History T) (first : ℕ) (path bytes : List ℕ) (end : CopyEnd) → WritesEnded a b first bytes end
    → PutEnded a b (tids_from first) file_handle path bytes end
put_ended_writing a b first path bytes end (zero, below, ended) = inl ended
put_ended_writing a b first path bytes end (suc i, below, (last, received, ended)) =
    inr (inl (
      i,
      omega (arith, below),
      (
        last,
        subst (λ rs. Received a b (rs ++ received_in last)) (front_received first bytes i) received,
        subst (λ t. EndedBy (decimal t) file_handle
            (λ r. r ≡ reply_of (decimal t) file_handle (Wrote (min (MAX_CHUNK * (1 + i)) (length bytes)))) last end)
            (next first i) ended,
      ),
    ))

pub put_not_written : {T : Type 0} (a b : History T) (first : ℕ) (path bytes : List ℕ) (end : CopyEnd)
    → UnlessCopied end (WritesEnded a b first bytes)
    → UnlessCopied end (PutEnded a b (tids_from first) file_handle path bytes)
put_not_written a b first path bytes end = unless_then end _ _ (put_ended_writing a b first path bytes end)

pub put_not_closed : {T : Type 0} (a b c : History T) (first tid : ℕ) (path bytes wanted : List ℕ) (last : Option (List ℕ))
    (end : CopyEnd) → (last ≡ None → ⊥) → tid ≡ chunk_count (length bytes)
    → wanted ≡ reply_of (decimal (first + 1 + tid)) file_handle (Closed (length bytes))
    → Since a b (put_front (tids_from first) file_handle path bytes (chunk_count (length bytes)))
    (put_front_replies (tids_from first) file_handle bytes (chunk_count (length bytes)))
    → Received b c (received_in last)
    → UnlessCopied end (EndedBy (decimal (first + 1 + tid)) file_handle (λ r. r ≡ wanted) last)
    → UnlessCopied end (PutEnded a c (tids_from first) file_handle path bytes)
put_not_closed a b c first tid path bytes wanted None end some count same h k = unless_then end _ _ (λ m. absurd (some refl))
put_not_closed a b c first tid path bytes wanted (Some reply) end some count same h k =
    let n = chunk_count (length bytes) in
    unless_then end _ _ (λ m. inr (inr (inl (
      reply,
      received_then a b c (put_front (tids_from first) file_handle path bytes n) (put_front_replies (tids_from first) file_handle bytes n)
          (reply ∷ []) h k,
      subst (λ t. EndedBy (decimal t) file_handle (λ r. r ≡ reply_of (decimal t) file_handle (Closed (length bytes))) (Some reply) end)
          (ap (λ m. first + 1 + m) count ∙ next_tid first n)
          (subst (λ w. EndedBy (decimal (first + 1 + tid)) file_handle (λ r. r ≡ w) (Some reply) end) same m),
    ))))

-- CLOSE got no reply
pub put_ended_unanswered : {T : Type 0} (a b c : History T) (first tid : ℕ) (path bytes : List ℕ) (is_sent : Bool)
    → tid ≡ chunk_count (length bytes)
    → Since a b (put_front (tids_from first) file_handle path bytes (chunk_count (length bytes)))
    (put_front_replies (tids_from first) file_handle bytes (chunk_count (length bytes)))
    → Since b c (sent_if is_sent (spelling_of (decimal (first + 1 + tid)) file_handle Close)) []
    → PutEnded a c (tids_from first) file_handle path bytes (unanswered is_sent)
put_ended_unanswered a b c first tid path bytes true same h k =
    let n = chunk_count (length bytes) in
    inr (inr (inr (inl (
      refl,
      subst
          (λ rs. Since a c
          (put_front (tids_from first) file_handle path bytes n
          ++ spelling_of (tids_from first (1 + n)) file_handle Close ∷ [])
          rs)
          (append-nil (put_front_replies (tids_from first) file_handle bytes n))
          (since_then a b c _ _ _ [] h
          (subst (λ t. Since b c (spelling_of (decimal t) file_handle Close ∷ []) [])
          (ap (λ m. first + 1 + m) same ∙ next_tid first n) k)),
    ))))
put_ended_unanswered a b c first tid path bytes false same h k =
    let n = chunk_count (length bytes) in
    inr (inr (inr (inr (
      refl,
      subst (λ rs. Since a c (put_front (tids_from first) file_handle path bytes n) rs)
          (append-nil (put_front_replies (tids_from first) file_handle bytes n))
          (subst (λ cs. Since a c cs (put_front_replies (tids_from first) file_handle bytes n ++ []))
          (append-nil (put_front (tids_from first) file_handle path bytes n))
          (since_then a b c _ _ [] [] h k)),
    ))))
