-- What a record of a batch comes to, and the record that says so.
use Rattle.std.specs.Prelude.{ℕ, List, ◌++◌, Ok, Err, codes, decimal, Result}
use Rattle.policies.specs.declared.verdicts.Verdict.{Verdict}
use Rattle.policies.specs.declared.verdicts.Verdict.TheVariants.{Granted, Clearance, History}
use Rattle.reference.specs.Refusals.{number}
use Rattle.faults.specs.Faults as faults
use Rattle.answers.specs.declared.outcomes.Answer.{Answer}
use Rattle.answers.specs.declared.outcomes.Answer.TheVariants.{Policy, Object, Session, Decided, Closed}
use Rattle.answers.specs.declared.outcomes.BatchRefusal.{BatchRefusal}
use Rattle.answers.specs.declared.outcomes.BatchRefusal.TheVariants.{Record, OutOfPlace, NoObjectPlace, Call}

abbrev pub refusal_number : BatchRefusal → ℕ
refusal_number (Record cause) = faults.refusal_number cause
refusal_number OutOfPlace = 11
refusal_number NoObjectPlace = 5
refusal_number (Call refusal) = number refusal

abbrev pub Outcome : Type 0
Outcome = Result Answer BatchRefusal

abbrev pub verdict_word : Verdict → List ℕ
verdict_word Granted = codes "granted"
verdict_word Clearance = codes "clearance"
verdict_word History = codes "history"

abbrev pub word_of : Outcome → List ℕ
word_of (Ok Policy) = codes "policy"
word_of (Ok (Object n)) = codes "object"
word_of (Ok (Session n)) = codes "session"
word_of (Ok (Decided v n)) = verdict_word v
word_of (Ok (Closed n)) = codes "closed"
word_of (Err refusal) = codes "refused"

abbrev pub number_of : Outcome → ℕ
number_of (Ok Policy) = 0
number_of (Ok (Object n)) = n
number_of (Ok (Session n)) = n
number_of (Ok (Decided v n)) = n
number_of (Ok (Closed n)) = n
number_of (Err refusal) = refusal_number refusal

-- a word and a number, as an answer and a refusal print
abbrev pub answer_text : Answer → List ℕ
answer_text answer = word_of (Ok answer) ++ (codes "," ++ decimal (number_of (Ok answer)))

abbrev pub refusal_text : BatchRefusal → List ℕ
refusal_text refusal = codes "refused," ++ decimal (refusal_number refusal)

-- the record's place, a word and a number, and CR LF
unfoldable pub output_of : ℕ → Outcome → List ℕ
output_of place outcome = decimal place ++ (codes "," ++ (word_of outcome ++ (codes "," ++ (decimal (number_of outcome) ++ codes "\r\n"))))
