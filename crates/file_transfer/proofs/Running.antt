-- A run over files grows by one.
use Rattle.std.proofs.Common.{◌≡◌, refl, sym, ap, ◌∙◌, ℕ, Bool, true, false, List, [], ◌∷◌, ◌++◌, Option, Some, None, append_assoc, append-nil}
use Rattle.std.specs.Prelude.{map, ◌&&◌}
use Rattle.std.specs.IoError.{error_kind}
use Rattle.std.specs.declared.io.ErrorKind.{ErrorKind}
use Rattle.std.specs.declared.io.ErrorKind.TheVariants as k
use Rattle.chaos_node.specs.declared.fault.NodeFault.{NodeFault}
use Rattle.chaos_node.specs.declared.fault.NodeFault.TheVariants as f
use Rattle.file_transfer.specs.declared.severity.Severity.{Severity}
use Rattle.file_transfer.specs.declared.severity.Severity.TheVariants as s
use Rattle.file_transfer.specs.declared.outcome.Outcome.{Outcome}
use Rattle.file_transfer.specs.declared.outcome.Outcome.TheVariants as o
use Rattle.file_transfer.specs.Severity.{worse, is_done}
use Rattle.file_transfer.specs.Outcome.{severity_of, severity_of_kind, severity_of_node, is_well, goes_on}
use Rattle.file_transfer.specs.Runs.{Reported, Tried, Tries, none, tried, left, Runs, worst_from, all_well, reported_after, reported_of}

worst_more : {F : Type 0} (severity : Severity) (files : List (Tried F)) (file : Tried F)
    → worst_from severity (files ++ file ∷ []) ≡ worse (worst_from severity files) (severity_of file.outcome)
worst_more severity [] file = refl
worst_more severity (first ∷ files) file = worst_more (worse severity (severity_of first.outcome)) files file

done_worse : (a b : Severity) → is_done (worse a b) ≡ (is_done a && is_done b)
done_worse s.Done s.Done = refl
done_worse s.Done s.Refused = refl
done_worse s.Done s.Failed = refl
done_worse s.Done s.NoMemory = refl
done_worse s.Refused s.Done = refl
done_worse s.Refused s.Refused = refl
done_worse s.Refused s.Failed = refl
done_worse s.Refused s.NoMemory = refl
done_worse s.Failed s.Done = refl
done_worse s.Failed s.Refused = refl
done_worse s.Failed s.Failed = refl
done_worse s.Failed s.NoMemory = refl
done_worse s.NoMemory s.Done = refl
done_worse s.NoMemory s.Refused = refl
done_worse s.NoMemory s.Failed = refl
done_worse s.NoMemory s.NoMemory = refl

kind_not_done : (kind : ErrorKind) → is_done (severity_of_kind kind) ≡ false
kind_not_done k.OutOfMemory = refl
kind_not_done _ = refl

fault_not_done : (fault : NodeFault) → is_done (severity_of_node fault) ≡ false
fault_not_done f.Link = refl
fault_not_done f.Clock = refl
fault_not_done f.NoMemory = refl

-- all is well of a file exactly where what was asked for was done
done_well : (outcome : Outcome) → is_done (severity_of outcome) ≡ is_well outcome
done_well (o.Copied contents) = refl
done_well o.Changed = refl
done_well (o.Garbled lost) = refl
done_well o.TooBig = refl
done_well o.TooLong = refl
done_well o.Unnamed = refl
done_well (o.Unread fault) = kind_not_done (error_kind fault)
done_well (o.Unwritten fault) = kind_not_done (error_kind fault)
done_well (o.Failed fault) = fault_not_done fault
done_well (o.Refused reply) = refl
done_well (o.Strange reply) = refl
done_well (o.Unanswered why) = refl
done_well (o.Unknown why) = refl
done_well o.NotTried = refl

and_true : (b : Bool) → (b && true) ≡ b
and_true true = refl
and_true false = refl

and_assoc : (a b c : Bool) → (a && (b && c)) ≡ ((a && b) && c)
and_assoc true b c = refl
and_assoc false b c = refl

pub all_more : {F : Type 0} (files : List (Tried F)) (file : Tried F)
    → all_well (files ++ file ∷ []) ≡ (all_well files && is_well file.outcome)
all_more [] file = and_true (is_well file.outcome)
all_more (first ∷ files) file =
    ap (λ b. is_well first.outcome && b) (all_more files file)
    ∙ and_assoc (is_well first.outcome) (all_well files) (is_well file.outcome)

files_more : {F : Type 0} (files : List (Tried F)) (file : Tried F)
    → map (λ f. f.file) (files ++ file ∷ []) ≡ map (λ f. f.file) files ++ file.file ∷ []
files_more [] file = refl
files_more (first ∷ files) file = ap (λ fs. first.file ∷ fs) (files_more files file)

reported_of_more : {F : Type 0} (name : F → List ℕ) (files : List (Tried F)) (file : Tried F)
    → reported_of name (files ++ file ∷ [])
    ≡ reported_of name files ++ record { name = name file.file; outcome = file.outcome } ∷ []
reported_of_more name [] file = refl
reported_of_more name (first ∷ files) file =
    ap (λ fs. record { name = name first.file; outcome = first.outcome } ∷ fs) (reported_of_more name files file)

reported_none : (reported : Option (List Reported)) → reported ≡ reported_after [] reported
reported_none None = refl
reported_none (Some before) = ap Some (sym (append-nil before))

reported_more : (files : List Reported) (file : Reported) (reported : Option (List Reported))
    → reported_after (file ∷ []) (reported_after files reported) ≡ reported_after (files ++ file ∷ []) reported
reported_more files file None = refl
reported_more files file (Some before) = ap Some (append_assoc before files (file ∷ []))

module _ {C F : Type 0} (one : C → F → Outcome → C → Type 0) (name : F → List ℕ) (start : C)
    (reported : Option (List Reported)) where
  pub began : Runs one name start reported [] s.Done true start reported
  began = record {
    tries = [];
    files_are = refl;
    tried = none;
    reporting = reported_none reported;
    worst = refl;
    all = refl;
  }

  more : (files : List F) (severity : Severity) (goes goes_then : Bool) (c d : C)
      (reported_now : Option (List Reported)) (file : F) (outcome : Outcome)
      → (run : Runs one name start reported files severity goes c reported_now)
      → Tries one start (run.tries ++ record { file = file; outcome = outcome } ∷ []) goes_then d
      → Runs one name start reported (files ++ file ∷ []) (worse severity (severity_of outcome)) goes_then d
      (reported_after (record { name = name file; outcome = outcome } ∷ []) reported_now)
  more files severity goes goes_then c d reported_now file outcome run then =
      let this : Tried F = record { file = file; outcome = outcome } in
      let word : Reported = record { name = name file; outcome = outcome } in
      record {
        tries = run.tries ++ this ∷ [];
        files_are = files_more run.tries this ∙ ap (λ fs. fs ++ file ∷ []) run.files_are;
        tried = then;
        reporting =
            ap (λ t. reported_after (word ∷ []) t) run.reporting ∙ reported_more (reported_of name run.tries) word reported
            ∙ ap (λ fs. reported_after fs reported) (sym (reported_of_more name run.tries this));
        worst = ap (λ st. worse st (severity_of outcome)) run.worst ∙ sym (worst_more s.Done run.tries this);
        all =
            done_worse severity (severity_of outcome) ∙ ap (λ b. is_done severity && b) (done_well outcome)
            ∙ ap (λ b. b && is_well outcome) run.all ∙ sym (all_more run.tries this);
      }

  -- one file more, which was tried
  pub one_tried : (files : List F) (severity : Severity) (c d : C) (reported_now : Option (List Reported)) (file : F)
      (outcome : Outcome)
      → one c file outcome d → Runs one name start reported files severity true c reported_now
      → Runs one name start reported (files ++ file ∷ []) (worse severity (severity_of outcome)) (goes_on outcome) d
      (reported_after (record { name = name file; outcome = outcome } ∷ []) reported_now)
  one_tried files severity c d reported_now file outcome fact run =
      more files severity true (goes_on outcome) c d reported_now file outcome run
      (tried run.tries c d file outcome run.tried fact)

  -- one file more, which was left
  pub one_left : (files : List F) (severity : Severity) (c : C) (reported_now : Option (List Reported)) (file : F)
      → Runs one name start reported files severity false c reported_now
      → Runs one name start reported (files ++ file ∷ []) (worse severity s.Refused) false c
      (reported_after (record { name = name file; outcome = o.NotTried } ∷ []) reported_now)
  one_left files severity c reported_now file run =
      more files severity false false c c reported_now file o.NotTried run (left run.tries c file run.tried)
