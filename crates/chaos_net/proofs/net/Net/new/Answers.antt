use Rattle.chaos_net.proofs.Starts.{new_sound}
use Rattle.chaos_net.proofs.net.Net.new.Goals as goal

pub invariant_of-result : goal.invariant_of-result
invariant_of-result c =
    new_sound _ c.args.a c.args.b c.in_ok-a.ensures.made c.in_ok-b.ensures.made c.in_ok-a.ensures.right
    c.in_ok-b.ensures.right c.send_cap.ensures.sound c.send_cap-2.ensures.sound c.in-Ok.ensures.0 c.in-Ok.ensures.1
