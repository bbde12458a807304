-- Faults, each with the one below it whole.
use Rattle.std.specs.Prelude.{ℕ, Ok, Err, Result}
use Rattle.faults.specs.declared.layers.FieldCause.{FieldCause}
use Rattle.faults.specs.declared.layers.FieldCause.TheVariants.{Word, Number, Base16, Tag}
use Rattle.faults.specs.declared.layers.FieldFault.{FieldFault}
use Rattle.faults.specs.declared.layers.RecordCause.{RecordCause}
use Rattle.faults.specs.declared.layers.RecordCause.TheVariants.{TooLong, Stray, FieldCount, Field}
use Rattle.faults.specs.declared.layers.RecordFault.{RecordFault}

abbrev pub at_field : ℕ → FieldCause → FieldFault
at_field n c = record { field = n; cause = c }

abbrev pub at_record : ℕ → RecordCause → RecordFault
at_record n c = record { «record» = n; cause = c }

-- a value goes on to k, and a fault is passed up by f
abbrev pub passed : {A B E F : Type 0} → Result A E → (E → F) → (A → Result B F) → Result B F
passed (Ok x) f k = k x
passed (Err e) f k = Err (f e)

-- the number of the refusal that a cause stands for: 8 for a tag, and 10 for what is wrong before a tag is read
abbrev pub cause_refusal : FieldCause → ℕ
cause_refusal Word = 10
cause_refusal (Number f) = 10
cause_refusal (Base16 f) = 10
cause_refusal (Tag f) = 8

abbrev pub field_refusal : FieldFault → ℕ
field_refusal f = cause_refusal f.cause

abbrev pub refusal_number : RecordCause → ℕ
refusal_number TooLong = 10
refusal_number (Stray n) = 10
refusal_number FieldCount = 10
refusal_number (Field f) = field_refusal f
