-- A plan that needs no store is carried out whatever the store.
use Rattle.std.proofs.Common.{◌≡◌, Option, Some, None}
use Rattle.std.specs.Prelude.{IfSome}
use Rattle.chaos_file.specs.Store.{Files, StoreChange}
use Rattle.chaos_file.specs.Plan.{Plan, Refuse, Tell, Grow, Ask}
use Rattle.chaos_file.specs.Outcome.{Work, Settles, Does, Follows, IsDone}

settled_does : (store : StoreChange) (m : Files) (work : Work) → (plan : Plan) → Settles plan work
    → store.after ≡ Some m → Does store m plan work
settled_does store m work (Refuse error) h e = (h, e)
settled_does store m work (Tell u answer) h e = (h, e)
settled_does store m work (Grow u answer) h e = (h, e)
settled_does store m work (Ask request) h e = absurd h

settled_follows : (store : StoreChange) (work : Work) → (plan : Plan) → Settles plan work → store.same
    → Follows store plan work
settled_follows store work (Refuse error) h e = (h, e)
settled_follows store work (Tell u answer) h e = (h, e)
settled_follows store work (Grow u answer) h e = (h, e)
settled_follows store work (Ask request) h e = absurd h

settled_honest : (store : StoreChange) (work : Work) (plan : Plan) → Settles plan work → (before : Option Files)
    → store.after ≡ before → IfSome before (λ m. Does store m plan work)
settled_honest store work plan h None e = tt
settled_honest store work plan h (Some m) e = settled_does store m work plan h e

pub settled_done : (store : StoreChange) (work : Work) (plan : Plan) → Settles plan work → store.after ≡ store.before
    → store.same → IsDone store plan work
settled_done store work plan h e same =
    record { honest = settled_honest store work plan h store.before e; any = settled_follows store work plan h same }
