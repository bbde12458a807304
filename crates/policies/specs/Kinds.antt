-- What the kinds of request ask.
use Rattle.std.specs.Prelude.{Bool, true, false, ◌&&◌}
use Rattle.policies.specs.declared.verdicts.Kind.{Kind}
use Rattle.policies.specs.declared.verdicts.Kind.TheVariants.{Read, Write, Both}

abbrev pub reads : Kind → Bool
reads Read = true
reads Write = false
reads Both = true

abbrev pub writes : Kind → Bool
writes Read = false
writes Write = true
writes Both = true

-- of a test for reading and one for writing, those that the kind needs
abbrev pub needed : Kind → Bool → Bool → Bool
needed Read read write = read
needed Write read write = write
needed Both read write = read && write

-- a write for a read, and a read for a write
abbrev pub reversed : Kind → Kind
reversed Read = Write
reversed Write = Read
reversed Both = Both
