-- The premises of the laws of opening, of progress and of reports, by computation.
use Rattle.std.proofs.Common.{[], ◌∷◌, codes, refl, inl, inr, lit<, lit≤}
use Rattle.chaos_packet.specs.Opcode.{op_data}
use Rattle.chaos_conn.specs.Config.{IsConfig}
use Rattle.chaos_lab.specs.declared.side.Side.TheVariants.{A}
use Rattle.chaos_lab.specs.Laboratory.{lab_contact}
use Rattle.chaos_lab.specs.Laboratory.Happening.{WriteBy, AcceptFrom, DeliverCopy}
use Rattle.chaos_lab.specs.LabHello.{LabCanSettle, LabsCanOpen, ReportComes, asking_lab, small, waiting_lab}
use Rattle.chaos_lab.specs.Tied.{HasMachine, machine_for}
use Rattle.chaos_lab.proofs.HeadlineLaw.{start_ties}
use Rattle.chaos_lab.proofs.NewOpens.{new_has_time, new_opens}
use Rattle.chaos_lab.proofs.Runs.{after_machine}

sound : IsConfig small
sound = record {
  some_send = lit≤ tt;
  send_fits = lit≤ tt;
  some_recv = lit≤ tt;
  recv_fits = lit≤ tt;
  some_retransmit = lit≤ tt;
  some_probe = lit≤ tt;
  some_down = lit≤ tt;
}

asking_machine : HasMachine asking_lab
asking_machine =
    record { plain = machine_for lab_contact small small; ties = start_ties lab_contact small small 100 (lit≤ tt) (lit< tt) sound sound }

pub labs_can_open : LabsCanOpen
labs_can_open = record {
  machine = asking_machine;
  unasked = new_opens small small 100 (lit< tt) (lit≤ tt);
  asked = record { asks = refl; meets = inr (inl refl) };
  accepted = record { asks = refl; meets = inr (inr (refl, record { again = lit< tt; moments = lit≤ tt })) };
  time = new_has_time small small 100 (lit< tt) (lit< tt) (lit≤ tt);
}

pub lab_can_settle : LabCanSettle
lab_can_settle = record {
  machine =
      after_machine asking_lab waiting_lab
      (DeliverCopy 0 ∷ AcceptFrom 200 ∷ DeliverCopy 1 ∷ DeliverCopy 2 ∷ WriteBy A op_data (codes "Hello") ∷ [])
      asking_machine refl;
  unread = lit< tt;
  settles = record {
    a = record { open_end = refl; again = lit< tt };
    b = record { open_end = refl; again = lit< tt };
    moments = lit≤ tt;
  };
  copy = _;
  inside = record {
    sent = refl;
    of_item = record { item = refl; number = refl; near = lit≤ tt };
    fresh = refl;
    open_end = refl;
    inside = lit< tt;
  };
}

pub report_comes : ReportComes
report_comes = record {
  copy = _;
  again = record {
    sent = refl;
    fresh = refl;
    open_end = refl;
    again = inr (1, record { item = refl; number = refl; near = lit≤ tt }, lit< tt);
  };
  keeps = lit< tt;
  report = record {
    open_end = refl;
    event = DeliverCopy 4;
    number = 6;
    status = _;
    new = lit≤ tt;
    put_out = refl;
    sender = refl;
    sts = refl;
    events = DeliverCopy 6 ∷ [];
    calm = tt;
    brings = inl (refl, (_, refl));
    after = refl;
    stays = refl;
  };
  all_read = lit≤ tt;
}
