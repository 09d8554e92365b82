-- What is wanted of a system's packings.
use Rattle.definitions.specs.Kept.{Identify}
use Rattle.definitions.specs.Refusals.{identifies}
use Rattle.kept.specs.declared.wanted.Wanted.{Wanted}

-- what is identified
abbrev pub identified : Wanted → Identify
identified w = identifies w.turned w.mirrored
