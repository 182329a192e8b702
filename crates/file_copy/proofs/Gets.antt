-- What was sent and received in a get.
use Rattle.std.proofs.Common.{◌≡◌, ℕ, suc, zero, ◌+◌, ◌-◌, ◌*◌, ◌<◌, ◌≤◌, Bool, true, false, List, [], ◌∷◌, ◌++◌, length, Option, Some, None, refl, ap, ◌∙◌, sym, subst, arith, rules, inl, inr, append_assoc}
use Rattle.std.specs.Prelude.{min, nat_le, ◌⊎◌, if◌then◌else◌}
use Rattle.std.specs.Fmt.{decimal}
use Rattle.std.proofs.lemmas.Bool.Decides.{nat_tests}
use Rattle.std.proofs.Math.Nat.{eq-or-lt_of_le}
use Rattle.chaos_file.specs.declared.limits.TheConstants.{MAX_CHUNK, MAX_FILE}
use Rattle.chaos_file.specs.Command.{OpenRead, Read, Close}
use Rattle.chaos_file.specs.Spelling.{spelling_of}
use Rattle.chaos_file.specs.Answer.{AtEnd, Opened, Closed, read_answer}
use Rattle.file_copy.specs.declared.end.CopyEnd.{CopyEnd}
use Rattle.file_copy.specs.Copy.{upto, chunk, chunk_count, reply_of, get_commands, get_front, get_front_replies, get_replies}
use Rattle.file_copy.specs.Talk.{received_in, History, Since, Received, SentOrNot, SentUpTo}
use Rattle.file_copy.specs.Row.{file_handle, request_command}
use Rattle.file_copy.specs.Ends.{EndedAt, EndedBy, GetBegun, GetEnded, IsGiven, IsOpened, IsPiece, ReadsEnded, UnlessCopied, close_received, get_sent, read_received, tids_from}
use Rattle.file_copy.proofs.Ended.{received_then, unless_then, unwanted}
use Rattle.file_copy.proofs.Growing.{ends, given}
use Rattle.file_copy.proofs.Joined.{next_tid, upto_same}
use Rattle.file_copy.proofs.Talks.{since_then}

open_named : (first : ℕ) → first ≡ first + 0
open_named first = omega arith

-- ---- the commands behind OPEN

read_at : (first n i : ℕ) → i ≤ n → get_sent first n i ≡ spelling_of (decimal (first + i)) file_handle Read
read_at first n i below =
    let test : nat_le i n ≡ true = search (rules, nat_tests) in
    ap (λ b. request_command (if b then Read else Close) (first + i)) test

close_at : (first n : ℕ) → get_sent first n (1 + n) ≡ spelling_of (decimal (first + (1 + n))) file_handle Close
close_at first n =
    let above : n < 1 + n = omega arith in
    let test : nat_le (1 + n) n ≡ false = search (rules, nat_tests) in
    ap (λ b. request_command (if b then Read else Close) (first + (1 + n))) test

-- so many READs
reads_sent : (first n k : ℕ) → k ≤ 1 + n
    → upto (get_sent (first + 1) n) k ≡ upto (λ i. spelling_of (tids_from first (1 + i)) file_handle Read) k
reads_sent first n k few =
    upto_same _ _ k
    (λ i m. read_at (first + 1) n i (omega (arith, m, few))
    ∙ ap (λ t. spelling_of (decimal t) file_handle Read) (next_tid first i))

-- all of them
all_sent : (first n : ℕ)
    → upto (get_sent (first + 1) n) (2 + n)
    ≡ upto (λ i. spelling_of (tids_from first (1 + i)) file_handle Read) (1 + n)
    ++ spelling_of (tids_from first (2 + n)) file_handle Close ∷ []
all_sent first n =
    let more : 2 + n ≡ suc (1 + n) = omega arith in
    let tid : first + 1 + (1 + n) ≡ first + (2 + n) = omega arith in
    ap (upto (get_sent (first + 1) n)) more
    ∙ ap (λ l. l ++ get_sent (first + 1) n (1 + n) ∷ []) (reads_sent first n (1 + n) (omega arith))
    ∙ ap (λ c. upto (λ i. spelling_of (tids_from first (1 + i)) file_handle Read) (1 + n) ++ c ∷ [])
    (close_at (first + 1) n ∙ ap (λ t. spelling_of (decimal t) file_handle Close) tid)

pub reads_sent_up_to : {T : Type 0} (a b : History T) (first k pieces n : ℕ) (rs : List (List ℕ)) → pieces ≡ n → k ≤ 2 + pieces
    → Since a b (upto (get_sent first pieces) k) rs → SentUpTo a b (get_sent first n) (2 + n)
reads_sent_up_to a b first k pieces n rs same few h =
    subst (λ m. SentUpTo a b (get_sent first m) (2 + m)) same (k, few, rs, h)

-- ---- the replies

received_named : (first i : ℕ) (bytes : List ℕ)
    → read_received (first + 1) bytes i ≡ reply_of (tids_from first (1 + i)) file_handle (read_answer (chunk bytes i))
received_named first i bytes = ap (λ t. reply_of (decimal t) file_handle (read_answer (chunk bytes i))) (next_tid first i)

-- the end was reported
pub at_end : {T : Type 0} (a b : History T) (cs : List (List ℕ)) (first len pieces i : ℕ) (bytes wanted : List ℕ)
    (last : Option (List ℕ)) → length bytes ≡ min (MAX_CHUNK * i) len → i ≡ pieces → last ≡ Some wanted
    → wanted ≡ reply_of (decimal (first + pieces)) file_handle AtEnd
    → Since a b cs (upto (read_received first bytes) i ++ received_in last)
    → Since a b cs (upto (read_received first bytes) (pieces + 1))
at_end a b cs first len pieces i bytes wanted last long same is spelled h =
    let within : length bytes ≤ MAX_CHUNK * i = omega (arith, long) in
    subst (λ m. Since a b cs (upto (read_received first bytes) (m + 1))) same
    (ends a b cs first bytes i last within
    (is ∙ ap Some (spelled ∙ ap (λ m. reply_of (decimal (first + m)) file_handle AtEnd) (sym same))) h)

-- all was received, and then the reply to CLOSE
pub all_received : {T : Type 0} (a b : History T) (first len pieces sent : ℕ) (bytes wanted : List ℕ) (last : Option (List ℕ))
    → pieces ≡ chunk_count len → sent ≡ 2 + pieces → last ≡ Some wanted
    → wanted ≡ reply_of (decimal (first + pieces + 1)) file_handle (Closed len)
    → Since a b (upto (get_sent first pieces) sent) (upto (read_received first bytes) (pieces + 1) ++ received_in last)
    → Since a b (upto (get_sent first (chunk_count len)) (2 + chunk_count len))
    (upto (read_received first bytes) (1 + chunk_count len) ++ close_received first len ∷ [])
all_received a b first len pieces sent bytes wanted last count all is spelled h =
    let n = chunk_count len in
    let more : pieces + 1 ≡ 1 + n = omega (arith, count) in
    let tid : first + pieces + 1 ≡ first + (1 + n) = omega (arith, count) in
    subst (λ m. Since a b (upto (get_sent first m) (2 + m)) (upto (read_received first bytes) (1 + n) ++ close_received first len ∷ [])) count
    (subst (λ m. Since a b (upto (get_sent first pieces) m) (upto (read_received first bytes) (1 + n) ++ close_received first len ∷ [])) all
    (subst (λ m. Since a b (upto (get_sent first pieces) sent) (upto (read_received first bytes) m ++ close_received first len ∷ [])) more
    (subst (λ x. Since a b (upto (get_sent first pieces) sent) (upto (read_received first bytes) (pieces + 1) ++ x ∷ []))
    (spelled ∙ ap (λ t. reply_of (decimal t) file_handle (Closed len)) tid)
    (subst (λ o. Since a b (upto (get_sent first pieces) sent) (upto (read_received first bytes) (pieces + 1) ++ received_in o)) is h))))

-- ---- however it ended

pub get_opening : {T : Type 0} (a b : History T) (first : ℕ) (path : List ℕ)
    → SentOrNot a b (spelling_of (decimal first) file_handle (OpenRead path))
    → GetBegun a b (tids_from first) file_handle path
get_opening a b first path (rs, inl h) = inl (rs, h)
get_opening a b first path (rs, inr h) =
    inr
    (inl
    (0, omega arith, 0, omega arith, rs, subst (λ n. Since a b (spelling_of (decimal n) file_handle (OpenRead path) ∷ []) rs) (open_named first) h))

opened : {T : Type 0} (a b : History T) (first : ℕ) (path reply : List ℕ)
    → Since a b (spelling_of (decimal first) file_handle (OpenRead path) ∷ []) (reply ∷ [])
    → Since a b (spelling_of (tids_from first 0) file_handle (OpenRead path) ∷ []) (reply ∷ [])
opened a b first path reply h =
    subst (λ n. Since a b (spelling_of (decimal n) file_handle (OpenRead path) ∷ []) (reply ∷ [])) (open_named first) h

get_reading_of : {T : Type 0} (a b c : History T) (first len : ℕ) (path reply : List ℕ) (k : ℕ) (rs : List (List ℕ)) → len ≤ MAX_FILE
    → Since a b (spelling_of (decimal first) file_handle (OpenRead path) ∷ []) (reply ∷ [])
    → Since b c (upto (get_sent (first + 1) (chunk_count len)) k) rs → (k ≡ 2 + chunk_count len) ⊎ (k < 2 + chunk_count len)
    → GetBegun a c (tids_from first) file_handle path
get_reading_of a b c first len path reply k rs fits h g (inl all) =
    let n = chunk_count len in
    inr (inr (
      len,
      fits,
      reply ∷ rs,
      since_then a b c _ _ _ _ (opened a b first path reply h)
          (subst (λ cs. Since b c cs rs) (ap (upto (get_sent (first + 1) n)) all ∙ all_sent first n) g),
    ))
get_reading_of a b c first len path reply k rs fits h g (inr fewer) =
    let n = chunk_count len in
    let few : k ≤ 1 + n = omega (arith, fewer) in
    inr (inl (
      len,
      fits,
      k,
      few,
      reply ∷ rs,
      since_then a b c _ _ _ _ (opened a b first path reply h) (subst (λ cs. Since b c cs rs) (reads_sent first n k few) g),
    ))

pub get_reading : {T : Type 0} (a b c : History T) (first len : ℕ) (path reply : List ℕ) → len ≤ MAX_FILE
    → Since a b (spelling_of (decimal first) file_handle (OpenRead path) ∷ []) (reply ∷ [])
    → SentUpTo b c (get_sent (first + 1) (chunk_count len)) (2 + chunk_count len)
    → GetBegun a c (tids_from first) file_handle path
get_reading a b c first len path reply fits h (k, few, rs, g) =
    get_reading_of a b c first len path reply k rs fits h g (eq-or-lt_of_le few)

pub get_done : {T : Type 0} (a b c : History T) (first len : ℕ) (path bytes : List ℕ) → length bytes ≡ len
    → Since a b (spelling_of (decimal first) file_handle (OpenRead path) ∷ []) (reply_of (decimal first) file_handle (Opened len) ∷ [])
    → Since b c (upto (get_sent (first + 1) (chunk_count len)) (2 + chunk_count len))
    (upto (read_received (first + 1) bytes) (1 + chunk_count len) ++ close_received (first + 1) len ∷ [])
    → Since a c (get_commands (tids_from first) file_handle path (length bytes)) (get_replies (tids_from first) file_handle bytes)
get_done a b c first len path bytes long h k =
    let n = chunk_count len in
    let tid : first + 1 + (1 + n) ≡ first + (2 + n) = omega arith in
    subst
    (λ m. Since a c (get_commands (tids_from first) file_handle path m)
    (reply_of (tids_from first 0) file_handle (Opened m)
    ∷ (upto (λ i. reply_of (tids_from first (1 + i)) file_handle (read_answer (chunk bytes i))) (1 + chunk_count m)
    ++ reply_of (tids_from first (2 + chunk_count m)) file_handle (Closed m) ∷ [])))
    (sym long)
    (since_then a b c _ _ _ _
    (subst (λ t. Since a b (spelling_of (decimal t) file_handle (OpenRead path) ∷ []) (reply_of (decimal t) file_handle (Opened len) ∷ []))
    (open_named first) h)
    (subst (λ cs. Since b c cs
    (upto (λ i. reply_of (tids_from first (1 + i)) file_handle (read_answer (chunk bytes i))) (1 + n)
    ++ reply_of (tids_from first (2 + n)) file_handle (Closed len) ∷ []))
    (all_sent first n)
    (subst (λ t. Since b c (upto (get_sent (first + 1) n) (2 + n))
    (upto (λ i. reply_of (tids_from first (1 + i)) file_handle (read_answer (chunk bytes i))) (1 + n)
    ++ reply_of (decimal t) file_handle (Closed len) ∷ []))
    tid
    (subst (λ rs. Since b c (upto (get_sent (first + 1) n) (2 + n)) (rs ++ close_received (first + 1) len ∷ []))
    (upto_same (read_received (first + 1) bytes)
    (λ i. reply_of (tids_from first (1 + i)) file_handle (read_answer (chunk bytes i))) (1 + n)
    (λ j m. received_named first j bytes))
    k))))

-- ---- how a get ended that wasn't done

-- behind the last piece
past_end : (tid handle : List ℕ) (len i : ℕ) (x : List ℕ) → len ≤ MAX_CHUNK * i → IsPiece tid handle len i x
    → x ≡ reply_of tid handle AtEnd
past_end tid handle len i x past ([], size, is) = is
past_end tid handle len i x past (b ∷ bs, size, is) = absurd (omega (arith, past, size))

pub end_not_done : {T : Type 0} (a b : History T) (cs : List (List ℕ)) (first len i : ℕ) (bytes wanted : List ℕ)
    (last : Option (List ℕ)) (end : CopyEnd)
    → i ≡ chunk_count len
    → wanted ≡ reply_of (decimal (first + i)) file_handle AtEnd
    → Since a b cs (upto (read_received first bytes) i ++ received_in last)
    → UnlessCopied end (EndedBy (decimal (first + i)) file_handle (λ r. r ≡ wanted) last)
    → UnlessCopied end (ReadsEnded a b first len bytes)
end_not_done a b cs first len i bytes wanted last end all same h =
    let past : len ≤ MAX_CHUNK * i = omega (arith, all) in
    unless_then end _ _ (λ k. inl (
      i,
      omega (arith, all),
      (
        last,
        (cs, h),
        unwanted (decimal (first + i)) file_handle (λ r. r ≡ wanted) (IsPiece (decimal (first + i)) file_handle len i)
            last end
            (λ x e w. past_end (decimal (first + i)) file_handle len i x past w ∙ sym same) k,
      ),
    ))

-- before the end
a_piece : (tid handle : List ℕ) (len i size : ℕ) (x : List ℕ) → MAX_CHUNK * i < len
    → size ≡ min (len - MAX_CHUNK * i) MAX_CHUNK → IsPiece tid handle len i x → IsGiven tid handle size x
a_piece tid handle len i size x below same (piece, long, is) =
    let some : 0 < length piece =
    omega (arith, below, long) in (piece, long ∙ sym same, is ∙ ap (reply_of tid handle) (given piece some))

-- a READ's reply, by which no more bytes came
pub piece_not_done : {T : Type 0} (a b : History T) (cs : List (List ℕ)) (first len i size : ℕ) (xs ys : List ℕ)
    (last : Option (List ℕ)) (end : CopyEnd)
    → i < chunk_count len
    → size ≡ min (len - MAX_CHUNK * i) MAX_CHUNK → Since a b cs (upto (read_received first xs) i ++ received_in last)
    → UnlessCopied end
    (λ e. (ys ≡ xs)
    × EndedBy (decimal (first + i)) file_handle (IsGiven (decimal (first + i)) file_handle size) last e)
    → UnlessCopied end (ReadsEnded a b first len ys)
piece_not_done a b cs first len i size xs ys last end inside same h =
    let below : MAX_CHUNK * i < len = omega (arith, inside) in
    unless_then end _ _ (λ k. inl (
      i,
      omega (arith, inside),
      (
        last,
        (cs, subst (λ zs. Since a b cs (upto (read_received first zs) i ++ received_in last)) (sym k.0) h),
        unwanted (decimal (first + i)) file_handle (IsGiven (decimal (first + i)) file_handle size)
            (IsPiece (decimal (first + i)) file_handle len i) last end
            (λ x e w. a_piece (decimal (first + i)) file_handle len i size x below same w) k.1,
      ),
    ))

-- the reply to CLOSE
pub close_not_done : {T : Type 0} (a b : History T) (cs : List (List ℕ)) (first len n : ℕ) (bytes wanted : List ℕ)
    (last : Option (List ℕ)) (end : CopyEnd) → n ≡ chunk_count len
    → wanted ≡ reply_of (decimal (first + n + 1)) file_handle (Closed len)
    → Since a b cs (upto (read_received first bytes) (n + 1) ++ received_in last)
    → UnlessCopied end (EndedBy (decimal (first + n + 1)) file_handle (λ r. r ≡ wanted) last)
    → UnlessCopied end (ReadsEnded a b first len bytes)
close_not_done a b cs first len n bytes wanted last end count same h =
    let more : n + 1 ≡ 1 + chunk_count len = omega (arith, count) in
    let tid : first + n + 1 ≡ first + (1 + chunk_count len) = omega (arith, count) in
    unless_then end _ _ (λ k. inr (
      last,
      (cs, subst (λ m. Since a b cs (upto (read_received first bytes) m ++ received_in last)) more h),
      subst (λ t. EndedBy (decimal t) file_handle (λ r. r ≡ reply_of (decimal t) file_handle (Closed len)) last end) tid
          (subst (λ w. EndedBy (decimal (first + n + 1)) file_handle (λ r. r ≡ w) last end) same k),
    ))

-- no file's length stands in a reply in which none was found
pub no_length : (found : Option ℕ) (reply : Option (List ℕ)) (tid : List ℕ) → ((n : ℕ) → n ≤ MAX_FILE → reply ≡ Some (reply_of tid file_handle (Opened n)) → found ≡ Some n) → found ≡ None
    → (x : List ℕ) → reply ≡ Some x → IsOpened tid file_handle x → ⊥
no_length found reply tid all none x e (n, fits, is) = let both : None ≡ Some n = sym none ∙ all n fits (e ∙ ap Some is) in cc

pub get_not_opened : {T : Type 0} (a b : History T) (first : ℕ) (bytes : List ℕ) (V : List ℕ → Type 0) (last : Option (List ℕ))
    (end : CopyEnd)
    → ((x : List ℕ) → last ≡ Some x → IsOpened (decimal first) file_handle x → V x) → Received a b (received_in last)
    → UnlessCopied end (EndedBy (decimal first) file_handle V last)
    → UnlessCopied end (GetEnded a b (tids_from first) file_handle bytes)
get_not_opened a b first bytes V last end f h =
    unless_then end _ _
    (λ k. inl
    (subst (λ n. EndedAt a b [] (decimal n) file_handle (IsOpened (decimal n) file_handle) end)
    (open_named first)
    (last, h, unwanted (decimal first) file_handle V (IsOpened (decimal first) file_handle) last end f k)))

-- the replies to OPEN and some READs
got_front : {T : Type 0} (a b c : History T) (first len : ℕ) (bytes : List ℕ) (cs qs : List (List ℕ)) (i : ℕ)
    → Since a b cs (reply_of (decimal first) file_handle (Opened len) ∷ [])
    → Received b c (upto (read_received (first + 1) bytes) i ++ qs)
    → Received a c (get_front_replies (tids_from first) file_handle len bytes i ++ qs)
got_front a b c first len bytes cs qs i h k =
    received_then a b c cs (reply_of (tids_from first 0) file_handle (Opened len) ∷ []) _
    (subst (λ n. Since a b cs (reply_of (decimal n) file_handle (Opened len) ∷ [])) (open_named first) h)
    (subst (λ rs. Received b c (rs ++ qs))
    (upto_same (read_received (first + 1) bytes)
    (λ j. reply_of (tids_from first (1 + j)) file_handle (read_answer (chunk bytes j))) i
    (λ j m. received_named first j bytes))
    k)

get_ended_reading : {T : Type 0} (a b c : History T) (first len : ℕ) (bytes : List ℕ) (cs : List (List ℕ)) (end : CopyEnd)
    → len ≤ MAX_FILE
    → Since a b cs (reply_of (decimal first) file_handle (Opened len) ∷ []) → ReadsEnded b c (first + 1) len bytes end
    → GetEnded a c (tids_from first) file_handle bytes end
get_ended_reading a b c first len bytes cs end fits h (inl (i, below, (last, received, ended))) =
    inr (
      len,
      fits,
      inl (
        i,
        below,
        (
          last,
          got_front a b c first len bytes cs (received_in last) i h received,
          subst (λ t. EndedBy (decimal t) file_handle (IsPiece (decimal t) file_handle len i) last end)
              (next_tid first i) ended,
        ),
      ),
    )
get_ended_reading a b c first len bytes cs end fits h (inr (last, received, ended)) =
    let n = chunk_count len in
    let tid : first + 1 + (1 + n) ≡ first + (2 + n) = omega arith in
    inr (
      len,
      fits,
      inr (
        last,
        got_front a b c first len bytes cs (received_in last) (1 + n) h received,
        subst (λ t. EndedBy (decimal t) file_handle (λ r. r ≡ reply_of (decimal t) file_handle (Closed len)) last end) tid ended,
      ),
    )

pub get_not_read : {T : Type 0} (a b c : History T) (first len : ℕ) (bytes : List ℕ) (cs : List (List ℕ)) (end : CopyEnd)
    → len ≤ MAX_FILE
    → Since a b cs (reply_of (decimal first) file_handle (Opened len) ∷ [])
    → UnlessCopied end (ReadsEnded b c (first + 1) len bytes)
    → UnlessCopied end (GetEnded a c (tids_from first) file_handle bytes)
get_not_read a b c first len bytes cs end fits h =
    unless_then end _ _ (get_ended_reading a b c first len bytes cs end fits h)
