-- The lists that a log stands for.
use Rattle.std.specs.Prelude.{◌≤◌, reverse, length, take, drop}
use Rattle.access_log.specs.Places.{Places}
use Rattle.access_log.specs.declared.logs.Log.TheInside.{Inside}

abbrev pub lists_of : Inside → Places
lists_of l = record { history = reverse (take l.used l.places.now); blank = drop l.used l.places.now }

-- no more places are in use than there are
abbrev pub Within : Inside → Type 0
Within l = l.used ≤ length l.places.now
