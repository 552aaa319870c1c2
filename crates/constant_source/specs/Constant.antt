-- The source that proposes 2 ^ 53 for every word.
use Rattle.std.specs.Prelude.{◌^◌}
use Rattle.sources.specs.Source.{Source}

abbrev pub constant_source : Source
constant_source = record { grade = 53; proposal = λ _. 2 ^ 53 }
