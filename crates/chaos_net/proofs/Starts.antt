-- A new running net stands for two new hosts; and what holds of each.
use Rattle.std.proofs.Common.{◌≡◌, ◌≤◌, [], Some, None, refl, sym, ap, ◌∙◌, subst, arith}
use Rattle.chaos_window.specs.declared.limits.TheConstants.{MAX_WINDOW}
use Rattle.chaos_conn.specs.Config.{IsConfig}
use Rattle.chaos_host.specs.Slot.{named_slot}
use Rattle.chaos_host.specs.View.{new_slot, make_fault}
use Rattle.chaos_lab.specs.declared.side.Side.{Side}
use Rattle.chaos_lab.specs.declared.side.Side.TheVariants.{A, B}
use Rattle.chaos_net.specs.declared.net.HostKind.{HostKind}
use Rattle.chaos_net.specs.declared.net.Net.TheInside.{Inside}
use Rattle.chaos_net.specs.declared.seat.Seat.{Seat}
use Rattle.chaos_net.specs.Net.{Net, Station, IsNew, new_station, length_of}
use Rattle.chaos_net.specs.Kept.{StationView, NetView, at}
use Rattle.chaos_net.specs.declared.station.KeptStation.{KeptStation}
use Rattle.chaos_net.specs.Inside.{IsEmpty, station_view, kept_at}
use Rattle.chaos_net.specs.New.{new_seat, station_of, new_view}
use Rattle.chaos_net.specs.Running.{AreKept, StandsAt, HasNet, HasLaw}
use Rattle.chaos_net.specs.Sound.{IsSound}
use Rattle.chaos_net.proofs.Network.{network, get_same, length_same}
use Rattle.chaos_net.proofs.Present.{named_is_present}

-- ---- a new net

abbrev new_net : HostKind → HostKind → Net
new_net a b A = new_station a.address a.conns a.config
new_net a b B = new_station b.address b.conns b.config

new_is : (kind : HostKind) → make_fault kind.address kind.conns ≡ None → IsConfig kind.config
    → IsNew (new_station kind.address kind.conns kind.config)
new_is kind right sound =
    record { address = kind.address; conns = kind.conns; config = kind.config; right = right; sound = sound; is = refl }

new_stands : (n : Net) (x : Side) (kind : HostKind) → n x ≡ new_station kind.address kind.conns kind.config
    → StandsAt n x 0 (station_of kind)
new_stands n x kind is = record {
  host = ap (λ (st : Station). st.host) (sym is);
  size = length_same kind.conns new_seat ∙ sym (length_same kind.conns (new_slot kind.config));
  seats = λ place seat there.
      let same : new_seat ≡ seat = get_same kind.conns place new_seat seat there in
      record {
        turn = ap (λ (s : Seat). s.turn) (sym same) ∙ ap (λ (st : Station). st.turn place) (sym is);
        peer =
            λ s told. let no : None
            ≡ Some s = ap (λ (st : Station). st.story (record { place = place; turn = (n x).turn place }))
            (sym is)
            ∙ told in absurd (cc);
      };
  sent = subst (λ (st : Station). AreKept n x 0 [] st.sent) (sym is) tt;
  turns = λ place. let t = ap (λ (st : Station). st.turn place) is in omega (arith, t);
  lengths = λ name. let l = ap (λ (st : Station). length_of (st.story name)) is in omega (arith, l);
}

pub new_has_net : (a b : HostKind) → make_fault a.address a.conns ≡ None → make_fault b.address b.conns ≡ None
    → IsConfig a.config → IsConfig b.config → HasNet (new_view a b)
new_has_net a b right_a right_b sound_a sound_b = record {
  net = new_net a b;
  stands = record {
    reached =
        record { start = new_net a b; a = new_is a right_a sound_a; b = new_is b right_b sound_b; events = []; run = refl };
    stations = both;
  };
}
  where
    both : (x : Side) → StandsAt (new_net a b) x 0 (at (new_view a b) x)
    both A = new_stands (new_net a b) A a refl
    both B = new_stands (new_net a b) B b refl

-- ---- every net

pub has_law : (v : NetView) → HasNet v → HasLaw v
has_law v h = record {
  net = h.net;
  stands = h.stands;
  law = λ x name. network h.net x name h.stands.reached;
  present =
      λ x id slot names. named_is_present h.net x id slot h.stands.reached
      (ap (λ w. named_slot w.slots id) (sym (h.stands.stations x).host) ∙ names);
}

-- ---- a new running net is sound

pub new_sound : (s : Inside) (a b : HostKind) → station_view s.stations.a ≡ station_of a
    → station_view s.stations.b ≡ station_of b
    → make_fault a.address a.conns ≡ None → make_fault b.address b.conns ≡ None → IsConfig a.config → IsConfig b.config
    → IsEmpty s.desk → s.desk.events ≡ 0 → IsSound s
new_sound s a b is_a is_b right_a right_b sound_a sound_b empty none = record {
  desk = empty;
  windows = windows;
  net =
      subst HasNet (λ j. record { a = sym is_a j; b = sym is_b j; events = sym none j })
      (new_has_net a b right_a right_b sound_a sound_b);
}
  where
    fits : (st : KeptStation) (kind : HostKind) → station_view st ≡ station_of kind → IsConfig kind.config
        → st.host.config.send_cap ≤ MAX_WINDOW
    fits st kind is sound =
        subst (λ config. config.send_cap ≤ MAX_WINDOW) (ap (λ (z : StationView). z.host.config) (sym is)) sound.send_fits

    windows : (x : Side) → (kept_at s.stations x).host.config.send_cap ≤ MAX_WINDOW
    windows A = fits s.stations.a a is_a sound_a
    windows B = fits s.stations.b b is_b sound_b
