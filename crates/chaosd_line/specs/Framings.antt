-- How packets stand in datagrams, by the words that say so.
use Rattle.std.specs.Prelude.{ℕ, Bool, List, Option, None, Some, codes, true, false}
use Rattle.std.specs.Option.{option_and_then, option_zip}
use Rattle.clap.specs.Words.{Row}
use Rattle.chaos_link.specs.declared.carriage.Carriage.{Carriage}
use Rattle.chaos_link.specs.declared.carriage.Carriage.TheVariants.{One, Two}
use Rattle.chaosd_hosts.specs.Addresses.{address_of}
use Rattle.chaosd_line.specs.Values.{flag_of, given, given_if, version_of}
use Rattle.chaosd_line.specs.declared.framing.Framing.{Framing}
use Rattle.chaosd_line.specs.declared.framing.Framing.TheVariants.{Chudp, Own}

-- the version of the datagrams that packets are sent in: CHUDP has one packet in a datagram, as version 1
abbrev pub carriage_of : Framing → Carriage
carriage_of (Own carriage) = carriage
carriage_of (Chudp bridge) = One

-- without `--chudp` the carriage, and no bridge's address; with it the carriage 1, and the bridge's address where it is given
abbrev pub framing_by : Bool → Carriage → Option ℕ → Option Framing
framing_by false carriage None = Some (Own carriage)
framing_by false carriage (Some bridge) = None
framing_by true One bridge = Some (Chudp bridge)
framing_by true Two bridge = None

unfoldable pub framing_at : List Row → Option Framing
framing_at rows = option_and_then (λ v. framing_by v.0 v.1.0 v.1.1)
    (option_zip (given flag_of (codes "chudp") rows)
    (option_zip (given version_of (codes "carriage") rows) (given_if address_of (codes "bridge") rows)))
