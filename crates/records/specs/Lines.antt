-- What a record says as a whole.
use Rattle.std.specs.Prelude.{ℕ, cond, List, [], ◌∷◌, length, Some, None, Ok, Err, Option, Result, nat_lt}
use Rattle.policies.specs.declared.verdicts.Kind.{Kind}
use Rattle.faults.specs.declared.layers.FieldFault.{FieldFault}
use Rattle.faults.specs.declared.layers.RecordCause.{RecordCause}
use Rattle.faults.specs.declared.layers.RecordCause.TheVariants.{TooLong, Stray, FieldCount, Field}
use Rattle.faults.specs.declared.layers.RecordFault.{RecordFault}
use Rattle.records.specs.declared.values.Record.{Record}
use Rattle.records.specs.declared.values.Record.TheVariants.{Policy, Object, Session, Request, Close}
use Rattle.records.specs.declared.words.Word.{Word}
use Rattle.records.specs.declared.words.Word.TheVariants.{Policy as policy_word, Object as object_word, Session as session_word, Request as request_word, Close as close_word}
use Rattle.faults.specs.Faults.{passed, at_field, at_record}
use Rattle.records.specs.Fields.{fields_of, stray_from}
use Rattle.records.specs.Texts.{number_field, label_field}
use Rattle.records.specs.Words.{word_of, policy_of}

abbrev pub policy_record : List ℕ → Result Record FieldFault
policy_record name = passed (policy_of name) (at_field 1) (λ p. Ok (Policy p))

abbrev pub object_record : List ℕ → Result Record FieldFault
object_record label = passed (label_field label 1) (λ f. f) (λ l. Ok (Object l))

abbrev pub close_record : List ℕ → Result Record FieldFault
close_record session = passed (number_field session 1) (λ f. f) (λ s. Ok (Close s))

abbrev pub session_record : List ℕ → List ℕ → Result Record FieldFault
session_record clearance start = passed (label_field clearance 1) (λ f. f) (λ c. passed (label_field start 2) (λ f. f) (λ s. Ok (Session c s)))

abbrev pub request_record : Kind → List ℕ → List ℕ → Result Record FieldFault
request_record kind session object =
    passed (number_field session 1) (λ f. f) (λ s. passed (number_field object 2) (λ f. f) (λ o. Ok (Request (record { session = s; object = o; kind = kind }))))

-- what is wrong with a field is wrong with the record
abbrev pub of_fields : Result Record FieldFault → Result Record RecordCause
of_fields r = passed r Field (λ x. Ok x)

-- a record of a word and one field more
abbrev pub with_one : Word → List ℕ → Result Record RecordCause
with_one policy_word a = of_fields (policy_record a)
with_one object_word a = of_fields (object_record a)
with_one session_word a = Err FieldCount
with_one (request_word kind) a = Err FieldCount
with_one close_word a = of_fields (close_record a)

-- a record of a word and two fields more
abbrev pub with_two : Word → List ℕ → List ℕ → Result Record RecordCause
with_two policy_word a b = Err FieldCount
with_two object_word a b = Err FieldCount
with_two session_word a b = of_fields (session_record a b)
with_two (request_word kind) a b = of_fields (request_record kind a b)
with_two close_word a b = Err FieldCount

-- a record of a word and the fields after it
abbrev pub by_word : List (List ℕ) → Word → Result Record RecordCause
by_word [] word = Err FieldCount
by_word (a ∷ []) word = with_one word a
by_word (a ∷ (b ∷ [])) word = with_two word a b
by_word (a ∷ (b ∷ (c ∷ more))) word = Err FieldCount

-- a record of its fields, of which there is always one
abbrev pub by_fields : List (List ℕ) → Result Record RecordCause
by_fields [] = Err FieldCount
by_fields (first ∷ more) = passed (word_of first) (λ c. Field (at_field 0 c)) (by_word more)

-- a record that has no stray octet, or the first that it has
abbrev pub unless_stray : Option ℕ → List ℕ → Result Record RecordCause
unless_stray (Some n) xs = Err (Stray n)
unless_stray None xs = by_fields (fields_of xs)

-- shut, since a client goes by what it is, and not by how it is read
unfoldable pub record_of : List ℕ → Result Record RecordCause
record_of xs = cond (nat_lt 256 (length xs)) (Err TooLong) (unless_stray (stray_from 0 xs) xs)

-- the first tag fault of a record's labels
abbrev pub tags_of : Record → Result (Unit {0}) FieldFault
tags_of (Policy p) = Ok tt
tags_of (Object l) = passed l (λ f. f) (λ _. Ok tt)
tags_of (Session c s) = passed c (λ f. f) (λ _. passed s (λ f. f) (λ _. Ok tt))
tags_of (Request r) = Ok tt
tags_of (Close s) = Ok tt

-- the record of a line, with right tags
abbrev pub whole_record : Result Record RecordCause → Result Record RecordCause
whole_record r = passed r (λ c. c) (λ x. passed (tags_of x) Field (λ _. Ok x))

-- the same at a place of the input
abbrev pub record_at : List ℕ → ℕ → Result Record RecordFault
record_at xs place = passed (whole_record (record_of xs)) (at_record place) (λ r. Ok r)
