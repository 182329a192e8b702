-- A user's LOGIN in front of the first command, and the reply to it in front of the first reply.
use Rattle.std.proofs.Common.{◌≡◌, ℕ, ◌≤◌, Bool, true, false, List, [], ◌∷◌, ◌++◌, length, drop, refl, ap, ◌∙◌, sym, subst, arith}
use Rattle.std.proofs.lemmas.List.{append_assoc}
use Rattle.file_copy.specs.Ends.{login_command, login_reply}
use Rattle.file_copy.specs.Talk.{History, Since, Talked, silence, with_received, with_sent}
use Rattle.file_copy.specs.User.{InTurn, Says, is_heard, is_missed, login_received, login_sent, user_began, user_talked}
use Rattle.file_copy.specs.declared.talk.Talk as t
use Rattle.file_copy.specs.declared.login.Login.{Login}
use Rattle.file_copy.specs.declared.login.Login.TheVariants.{Unsent, Sent, Done, Missed}
use Rattle.file_copy.specs.declared.user.UserTalk.{UserTalk}
use Rattle.file_copy.proofs.Talks.{since_then}

-- this and no more
abbrev more : Talked → List (List ℕ) → List (List ℕ) → Talked
more talk commands replies = with_received replies (with_sent commands talk)

-- what may be sent and received where the LOGIN has come so far
abbrev pub MaySay : Login → List (List ℕ) → List (List ℕ) → Type 0
MaySay Unsent commands replies = (commands ≡ []) × (replies ≡ [])
MaySay Sent commands replies = replies ≡ []
MaySay Done commands replies = Unit {0}
MaySay (Missed reply) commands replies = replies ≡ []

in_turn_more : (was is : Login) (talk : Talked) (cs rs : List (List ℕ)) → MaySay is cs rs → InTurn was is talk
    → InTurn was is (more talk cs rs)
in_turn_more was Unsent talk cs rs (none, silent) (same, still) = (
  same,
  ap (λ x. more talk x rs) none ∙ ap (more talk []) silent ∙ ap (λ x. more x [] []) still,
)
in_turn_more was Sent talk cs rs silent (same, still) = (same, ap (λ l. l ++ rs) still ∙ silent)
in_turn_more was Done talk cs rs silent still = tt
in_turn_more was (Missed reply) talk cs rs silent still = ap (λ l. l ++ rs) still ∙ silent

since_more : {T : Type 0} (a b c : History T) (xs ys cs rs : List (List ℕ)) (talk : Talked)
    → Since a b (xs ++ talk.sent) (ys ++ talk.received) → Since b c cs rs
    → Since a c (xs ++ (talk.sent ++ cs)) (ys ++ (talk.received ++ rs))
since_more a b c xs ys cs rs talk h k =
    subst (λ l. Since a c l (ys ++ (talk.received ++ rs))) (append_assoc xs talk.sent cs)
    (subst (λ l. Since a c ((xs ++ talk.sent) ++ cs) l) (append_assoc ys talk.received rs) (since_then a b c _ _ cs rs h k))

module _ {T : Type 0} (talked : T → History T) where
  -- more was sent and received, and the LOGIN came no further
  says_more : (start old new : T) (name : List ℕ) (was is : Login) (talk : Talked) (cs rs : List (List ℕ)) → MaySay is cs rs
      → Since (talked old) (talked new) cs rs → Says talked start old name was is talk
      → Says talked start new name was is (more talk cs rs)
  says_more start old new name was is talk cs rs may k h = record {
    in_turn = in_turn_more was is talk cs rs may h.in_turn;
    since = since_more (talked start) (talked old) (talked new) _ _ cs rs talk h.since k;
  }

  -- the LOGIN was sent
  says_login : (start old new : T) (name : List ℕ) (was : Login) (talk : Talked)
      → Since (talked old) (talked new) (login_command name ∷ []) [] → Says talked start old name was Unsent talk
      → Says talked start new name was Sent (more talk [] [])
  says_login start old new name Unsent talk k h =
      subst (λ u. Says talked start new name Unsent Sent (more u [] [])) (sym h.in_turn.1)
      (record {
        in_turn = (refl, refl);
        since = since_then (talked start) (talked old) (talked new) [] [] (login_command name ∷ []) []
            (subst (λ u. Since (talked start) (talked old) u.sent u.received) h.in_turn.1 h.since) k;
      })
  says_login start old new name Sent talk k h = absurd (let e = h.in_turn.0 in cc)
  says_login start old new name Done talk k h = absurd (let e = h.in_turn.0 in cc)
  says_login start old new name (Missed reply) talk k h = absurd (let e = h.in_turn.0 in cc)

  says_behind : (start now : T) (name : List ℕ) (cs rs : List (List ℕ)) → Says talked start now name Unsent Done (more silence cs rs)
      → Since (talked start) (talked now) (login_command name ∷ cs) (login_reply name ∷ rs)
  says_behind start now name cs rs h = h.since

  says_within : (start now : T) (name : List ℕ) (cs rs : List (List ℕ)) → Says talked start now name Done Done (more silence cs rs)
      → Since (talked start) (talked now) cs rs
  says_within start now name cs rs h = h.since

  -- a reply to it came, which is the first that is received
  since_reply : (a b c : History T) (xs cs rs : List (List ℕ)) (reply : List ℕ) → rs ≡ [] → Since a b (xs ++ cs) rs
      → Since b c [] (reply ∷ []) → Since a c (xs ++ (cs ++ [])) (reply ∷ (rs ++ []))
  since_reply a b c xs cs rs reply none h k =
      subst (λ l. Since a c (xs ++ (cs ++ [])) (reply ∷ (l ++ []))) (sym none)
      (subst (λ l. Since a c l (reply ∷ [])) (append_assoc xs cs [])
      (since_then a b c (xs ++ cs) [] [] (reply ∷ []) (subst (λ l. Since a b (xs ++ cs) l) none h) k))

  says_done : (start old new : T) (name : List ℕ) (was : Login) (talk : Talked)
      → Since (talked old) (talked new) [] (login_reply name ∷ []) → Says talked start old name was Sent talk
      → Says talked start new name was Done (more talk [] [])
  says_done start old new name Unsent talk k h = record {
    in_turn = tt;
    since = since_reply (talked start) (talked old) (talked new) (login_command name ∷ []) talk.sent talk.received (login_reply name)
        h.in_turn.1 h.since k;
  }
  says_done start old new name Sent talk k h = record {
    in_turn = tt;
    since = since_reply (talked start) (talked old) (talked new) [] talk.sent talk.received (login_reply name) h.in_turn.1 h.since k;
  }
  says_done start old new name Done talk k h = absurd (let e = h.in_turn.0 in cc)
  says_done start old new name (Missed reply) talk k h = absurd (let e = h.in_turn.0 in cc)

  says_missed : (start old new : T) (name : List ℕ) (was is : Login) (reply : List ℕ) (talk : Talked) → is_missed is ≡ true
      → login_received name is ≡ reply ∷ [] → Since (talked old) (talked new) [] (reply ∷ [])
      → Says talked start old name was Sent talk → Says talked start new name was is (more talk [] [])
  says_missed start old new name was Unsent reply talk e f k h = absurd (cc)
  says_missed start old new name was Sent reply talk e f k h = absurd (cc)
  says_missed start old new name was Done reply talk e f k h = absurd (cc)
  says_missed start old new name Unsent (Missed r) reply talk e f k h = record {
    in_turn = ap (λ l. l ++ []) h.in_turn.1;
    since = subst (λ rs. Since (talked start) (talked new) (login_command name ∷ (talk.sent ++ [])) (rs ++ (talk.received ++ []))) (sym f)
        (since_reply (talked start) (talked old) (talked new) (login_command name ∷ []) talk.sent talk.received reply
        h.in_turn.1 h.since k);
  }
  says_missed start old new name Sent (Missed r) reply talk e f k h = record {
    in_turn = ap (λ l. l ++ []) h.in_turn.1;
    since = subst (λ rs. Since (talked start) (talked new) (talk.sent ++ []) (rs ++ (talk.received ++ []))) (sym f)
        (since_reply (talked start) (talked old) (talked new) [] talk.sent talk.received reply h.in_turn.1 h.since k);
  }
  says_missed start old new name Done (Missed r) reply talk e f k h = absurd (let e = h.in_turn.0 in cc)
  says_missed start old new name (Missed other) (Missed r) reply talk e f k h = absurd (let e = h.in_turn.0 in cc)

replied_in : (was is : Login) (cs rs : List (List ℕ)) (r : List ℕ) → InTurn was is (more silence cs (r ∷ rs)) → is ≡ Done
replied_in was Unsent cs rs r h = absurd (let e = ap (λ t. t.received) h.1 in cc)
replied_in was Sent cs rs r h = absurd (let e = h.1 in cc)
replied_in was Done cs rs r h = refl
replied_in was (Missed reply) cs rs r h = absurd (let e = h in cc)

module _ {T : Type 0} {ghosts : t.Ghosts T} (talked : T → History T) where
  -- the LOGIN came no further
  pub user_says : (old new : UserTalk T ghosts) (cs rs : List (List ℕ)) → new.login ≡ old.login → new.name.now ≡ old.name.now
      → MaySay old.login cs rs → Since (talked old.talk) (talked new.talk) cs rs
      → Since (user_talked talked old) (user_talked talked new) cs rs
  user_says old new cs rs same named may k = record {
    goes = λ first talk h. (
      named ∙ h.0,
      subst (λ l. Says talked first.talk new.talk new.name.now first.login l (more talk cs rs)) (sym same)
          (subst (λ n. Says talked first.talk new.talk n first.login old.login (more talk cs rs)) (sym named)
          (says_more talked first.talk old.talk new.talk old.name.now first.login old.login talk cs rs may k h.1)),
    );
  }

  pub user_asks : (old new : UserTalk T ghosts) → old.login ≡ Unsent → new.login ≡ Sent → new.name.now ≡ old.name.now
      → Since (talked old.talk) (talked new.talk) (login_command old.name.now ∷ []) []
      → Since (user_talked talked old) (user_talked talked new) [] []
  user_asks old new was is named k = record {
    goes = λ first talk h. (
      named ∙ h.0,
      subst (λ l. Says talked first.talk new.talk new.name.now first.login l (more talk [] [])) (sym is)
          (subst (λ n. Says talked first.talk new.talk n first.login Sent (more talk [] [])) (sym named)
          (says_login talked first.talk old.talk new.talk old.name.now first.login talk k
          (subst (λ l. Says talked first.talk old.talk old.name.now first.login l talk) was h.1))),
    );
  }

  pub user_enters : (old new : UserTalk T ghosts) → old.login ≡ Sent → new.login ≡ Done → new.name.now ≡ old.name.now
      → Since (talked old.talk) (talked new.talk) [] (login_reply old.name.now ∷ [])
      → Since (user_talked talked old) (user_talked talked new) [] []
  user_enters old new was is named k = record {
    goes = λ first talk h. (
      named ∙ h.0,
      subst (λ l. Says talked first.talk new.talk new.name.now first.login l (more talk [] [])) (sym is)
          (subst (λ n. Says talked first.talk new.talk n first.login Done (more talk [] [])) (sym named)
          (says_done talked first.talk old.talk new.talk old.name.now first.login talk k
          (subst (λ l. Says talked first.talk old.talk old.name.now first.login l talk) was h.1))),
    );
  }

  pub user_misses : (old new : UserTalk T ghosts) (reply : List ℕ) → old.login ≡ Sent → is_missed new.login ≡ true
      → login_received old.name.now new.login ≡ reply ∷ [] → new.name.now ≡ old.name.now
      → Since (talked old.talk) (talked new.talk) [] (reply ∷ [])
      → Since (user_talked talked old) (user_talked talked new) [] []
  user_misses old new reply was missed received named k = record {
    goes = λ first talk h. (
      named ∙ h.0,
      subst (λ n. Says talked first.talk new.talk n first.login new.login (more talk [] [])) (sym named)
          (says_missed talked first.talk old.talk new.talk old.name.now first.login new.login reply talk missed received k
          (subst (λ l. Says talked first.talk old.talk old.name.now first.login l talk) was h.1)),
    );
  }

  -- ---- what a user's talk shows of the talk itself

  pub user_named : (old new : UserTalk T ghosts) (cs rs : List (List ℕ)) → Since (user_talked talked old) (user_talked talked new) cs rs
      → new.name.now ≡ old.name.now
  user_named old new cs rs h = (h.goes old silence (user_began talked old)).0

  -- where a reply came, the user is logged in
  pub user_in : (old new : UserTalk T ghosts) (cs rs : List (List ℕ)) (r : List ℕ)
      → Since (user_talked talked old) (user_talked talked new) cs (r ∷ rs) → new.login ≡ Done
  user_in old new cs rs r h =
      replied_in old.login new.login cs rs r (h.goes old silence (user_began talked old)).1.in_turn

  -- behind the LOGIN, where it wasn't sent before
  pub user_since_new : (old new : UserTalk T ghosts) (cs rs : List (List ℕ)) (r : List ℕ) → old.login ≡ Unsent
      → Since (user_talked talked old) (user_talked talked new) cs (r ∷ rs)
      → Since (talked old.talk) (talked new.talk) (login_command old.name.now ∷ cs) (login_reply old.name.now ∷ r ∷ rs)
  user_since_new old new cs rs r unsent h =
      let now = h.goes old silence (user_began talked old) in
      subst (λ n. Since (talked old.talk) (talked new.talk) (login_command n ∷ cs) (login_reply n ∷ r ∷ rs)) now.0
      (says_behind talked old.talk new.talk new.name.now cs (r ∷ rs)
      (subst (λ l. Says talked old.talk new.talk new.name.now l Done (more silence cs (r ∷ rs))) unsent
      (subst (λ l. Says talked old.talk new.talk new.name.now old.login l (more silence cs (r ∷ rs))) (user_in old new cs rs r h) now.1)))

  -- and where the user had logged in
  pub user_since_in : (old new : UserTalk T ghosts) (cs rs : List (List ℕ)) (r : List ℕ) → old.login ≡ Done
      → Since (user_talked talked old) (user_talked talked new) cs (r ∷ rs)
      → Since (talked old.talk) (talked new.talk) cs (r ∷ rs)
  user_since_in old new cs rs r within h =
      let now = h.goes old silence (user_began talked old) in
      says_within talked old.talk new.talk new.name.now cs (r ∷ rs)
      (subst (λ l. Says talked old.talk new.talk new.name.now l Done (more silence cs (r ∷ rs))) within
      (subst (λ l. Says talked old.talk new.talk new.name.now old.login l (more silence cs (r ∷ rs))) (user_in old new cs rs r h) now.1))
