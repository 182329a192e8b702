-- What `show` reads, and how much it reports.
use Rattle.std.specs.Prelude.{if◌then◌else◌}
use Rattle.chaosd_line.specs.declared.line.Show.{Show}
use Rattle.chaosd_show.specs.declared.format.Format.{Format}
use Rattle.chaosd_show.specs.declared.format.Format.TheVariants.{Chudp, Own}
use Rattle.chaosd_show.specs.declared.view.View.{View}
use Rattle.chaosd_show.specs.declared.view.View.TheVariants.{File, Plain}

-- the form of the datagrams that `show` reads
abbrev pub format_by : Show → Format
format_by show = if show.is_chudp then Chudp else Own

-- how much `show` reports of data
abbrev pub view_by : Show → View
view_by show = if show.is_file then File else Plain
