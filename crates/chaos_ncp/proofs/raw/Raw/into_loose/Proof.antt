use Rattle.std.proofs.Common.{◌≡◌, List, [], ◌∷◌, ◌++◌, refl, sym, subst}
use mir.Val.{Val, vptr}
use mir.Raw.{raw as bare}
use denote.Memory.{lone}
use base.Logic.{SProp, ent, emp, id⊢, never, fst∗}
use prog.Wp.{WpFn}
use types.Logic.{sem}
use types.Kit.{‵, raw, ◌⊛◌, ◌$◌, ◌∵◌, !, qed, by, move, keep, split, fsplit, fjoin, suffices, rewrite, use0}
use types.Run.{stop, fld, of_opd, no_more, and_then, returns, enter}
use types.ByLocal.{alloc_all, pass_all, free_all, look_at, get, get_in, sets}
use types.Part.{agg, sub, whole}
use contract.Monad.{fact, fact_i}
use contract.Running.{tables}
use denote.Exit.{yes}
use denote.RattleType.{RattleType, owns}
use denote.Signature.{types_at, plain}
use denote.RawPtr.{Ptr, block_ptr, null_ptr, ptr_val, in_a_block}
use denote.Steps.{nothing, heard}
use denote.Triple.Entry.{alive}
use denote.Triple.Walked.{Stays, stay_dropped, walk_of}
use Rattle.std.proofs.alloc.Calls.{Goes-blank}
use Rattle.std.specs.declared.option.Option.{Option}
use Rattle.std.specs.declared.option.Option.TheVariants.{Some}
use Rattle.std.proofs.alloc.Global.TheLaws as heap_laws
use Rattle.std.specs.contracts.impls.GlobalAllocator.TheImpl.{ghosts}
use Rattle.std.specs.Box.Ownership.{box_owns}
use Rattle.std.proofs.raw_atomic.Walks.{proved_at, leaves}
use Rattle.std.specs.Prelude.{is_some, true}
use Rattle.chaos_ncp.specs.contracts.node.Node as node
use Rattle.chaos_ncp.proofs.Values.{both, loose_good, loose_in}
use Rattle.chaos_ncp.proofs.RawValues.{Z, owned, value_in, raw_out}
use Rattle.chaos_ncp.specs.contracts.raw.Raw as raw_type
use Rattle.chaos_ncp.specs.contracts.raw.Raw.into_loose.{ended, clauses}
use Rattle.chaos_ncp.specs.contracts.raw.Raw.into_loose.Key.{name as #self}
use Rattle.chaos_ncp.proofs.raw.Raw.into_loose.Statement.{statement}
use Rattle.chaos_ncp.proofs.raw.Raw.into_loose.Code as code

pub into_loose_spec : {M : Type 1} → statement M
into_loose_spec 𝓤 𝓛 𝓜 𝓡 wired =
    let H = 𝓛.H in let 𝓣 = tables 𝓤 H 𝓜 𝓡 𝓡.env in let c = clauses 𝓛 𝓜.mem 𝓡.returns in let fn = code.function in
    let R : RattleType = node.the_row in let LZ = heap_laws.the_row_laws in let P : RattleType = raw_type.the_row in
    let hs : Stays ended.signature.params ended.kept = (stay_dropped (plain (λ _. P)) yes, tt) in
    proved_at 𝓛 ended hs c 𝓜 𝓡 (Goes-blank 𝓛 0 (plain (λ _. P)) yes (λ κs x f. tt), tt) #self fn (code.unfolded 𝓤 H 𝓜 𝓡 wired) (λ z are.
    let κs = z.0.0 in let qs = z.0.1 in let v = z.0.3.0 in let a = v.alloc in let Post : Val → SProp 𝓤 = (walk_of 𝓛 ended hs c).post z in let Run : List Val → SProp 𝓤 = λ ws. WpFn 𝓤 H 𝓣.C 𝓣.Λ fn ws Post in
    qed 𝓛 ((raw (alive 𝓛 ended.signature κs qs) ⊛ ‵ (owns (types_at ended.signature.params κs) z.0.3 z.0.4)) ∷ raw (fact 𝓤 (is_some v.node ≡ true)) ∷ []) ∵
    move ! (1 ∷ []) $ heard ! (is_some v.node ≡ true) (λ found. let there = value_in v.node found in let x : R.Denot = there.0 in let is : v.node ≡ Some x = there.1 in split ! $ move ! (1 ∷ []) $ fsplit ! $ raw_out ! v z.0.4.0 (λ h es fits.
    rewrite ! 0 (λ (n : Option R.Denot). ‵ (owned a v.at n)) is refl $
    in_a_block ! v.at (λ p. box_owns (ghosts.dealloc_token a) R p x) (fst∗ 𝓤 (never 𝓤) (sem 𝓛 (ghosts.dealloc_token a (bare (lone R.mir)) null_ptr))) (λ b o e.
    let w : Val = both (vptr b o) h in let typed = loose_good R Z LZ ghosts b o h fits in
    let ws : z.0.4.0 ≡ w ∷ [] = subst (λ (p : Ptr). z.0.4.0 ≡ both (ptr_val p) h ∷ []) e es in
    suffices ! (Run (w ∷ [])) (subst (λ (us : List Val). ent 𝓤 (Run (w ∷ [])) (Run us)) (sym (λ i. ws i ++ [])) (id⊢ 𝓤 (Run (w ∷ [])))) $
    enter ! 𝓣.C 𝓣.Λ fn (w ∷ []) Post $ alloc_all ! (λ l. pass_all ! refl (typed, tt) $
    sets ! (of_opd ! (get_in ! (fld ! refl (stop !)) (sub ! 0 refl (whole !)))) refl (tt, tt) $ sets ! (of_opd ! (get_in ! (fld ! refl (stop !)) (sub ! 1 refl (whole !)))) refl fits $
    sets ! (of_opd ! (get ! refl)) refl (tt, tt) $ sets ! (agg ! (and_then ! (get ! refl) (and_then ! (get ! refl) (no_more !)))) refl typed $
    loose_in R Z LZ ghosts ! b o h a x $
    use0 𝓛 (raw (fact 𝓤 (v.node ≡ Some x))) (fact_i 𝓤 (v.node ≡ Some x) (emp 𝓤) is) $ nothing ! $ nothing ! $ fjoin ! $
    returns ! (look_at ! 0 refl) $ free_all ! refl $ keep ! (4 ∷ 0 ∷ 2 ∷ 1 ∷ []) $ by ! (leaves 𝓛 ended hs c z w (record { at = block_ptr b o; alloc = a; value = x }) (_, tt) (tt, tt)))))))
