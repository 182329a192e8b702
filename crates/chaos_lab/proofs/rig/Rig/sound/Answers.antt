use Rattle.std.proofs.Common.{rules}
use Rattle.chaos_conn.specs.View.{IsConn}
use Rattle.chaos_lab.specs.declared.side.Side.{Side}
use Rattle.chaos_lab.specs.declared.side.Side.TheVariants.{A, B}
use Rattle.chaos_lab.specs.Laboratory.{LabView, lab_end}
use Rattle.chaos_lab.proofs.rig.Rig.sound.Goals as goal

both : (l : LabView) → IsConn l.a.conn → IsConn l.b.conn → (x : Side) → IsConn (lab_end l x).conn
both l a b A = a
both l a b B = b

pub returns : goal.returns
returns c = both c.args.self.now (search rules) (search rules)
