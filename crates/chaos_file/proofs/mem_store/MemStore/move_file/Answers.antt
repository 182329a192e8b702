-- The store's view is of its entries, and the lemmas speak of these.
use Rattle.std.proofs.Common.{◌≡◌, List, Some, None, true, false, ap, ◌∙◌, sym}
use Rattle.std.specs.Prelude.{position}
use Rattle.std.specs.FinMap as map
use Rattle.chaos_file.specs.Store.{is_there, with_moved}
use Rattle.chaos_file.specs.Entries.{Entry, is_at, files_of}
use Rattle.chaos_file.proofs.Files.{files_moved, none_placed}
use Rattle.chaos_file.proofs.mem_store.MemStore.move_file.Goals as goal

pub returns-in-Some : goal.returns-in-Some
returns-in-Some c =
    let es : List Entry = c.self.inside.entries.items in
    let first : position (is_at c.args.old.now) es ≡ Some c.in-Some.place = cc in
    let view : c.args.self.now ≡ files_of es = cc in
    let free : map.get (files_of es) c.args.path ≡ None =
    ap (λ m. map.get m c.args.path) (sym view) ∙ c.requires.free in
    ap files_of c.move_entry.ensures
    ∙ files_moved c.args.old.now c.args.path es c.in-Some.place first free
    ∙ ap (λ m. with_moved m c.args.old.now c.args.path) (sym view)

pub returns-in_default : goal.returns-in_default
returns-in_default c =
    let es : List Entry = c.self.inside.entries.items in
    let none : position (is_at c.args.old.now) es ≡ None = cc in
    let view : c.args.self.now ≡ files_of es = cc in
    let gone : is_there c.args.self.now c.args.old.now ≡ false =
    ap (λ m. is_there m c.args.old.now) view ∙ none_placed c.args.old.now es none in
    let k : false ≡ true = sym gone ∙ c.requires.there in
    cc
