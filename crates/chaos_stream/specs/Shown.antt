-- What a look answers, as what contracts see.
use Rattle.chaos_stream.specs.Reading.{Sight, Bytes, Eof, Nothing, Ended}
use Rattle.chaos_stream.specs.declared.peek.Peek.{Peek}
use Rattle.chaos_stream.specs.declared.peek.Peek.TheVariants as p

abbrev pub sight_of : Peek → Sight
sight_of (p.Bytes bytes) = Bytes bytes.now
sight_of p.Eof = Eof
sight_of p.Nothing = Nothing
sight_of p.Ended = Ended
