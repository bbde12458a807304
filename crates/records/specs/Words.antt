-- The words of a record.
use Rattle.std.specs.Prelude.{ℕ, Bool, cond, List, Ok, Err, codes, Result}
use Rattle.std.specs.Str.{bytes_eq}
use Rattle.policies.specs.declared.verdicts.Kind.TheVariants.{Read, Write, Both}
use Rattle.faults.specs.declared.layers.FieldCause.{FieldCause}
use Rattle.faults.specs.declared.layers.FieldCause.TheVariants.{Word as no_word}
use Rattle.records.specs.declared.values.PolicyName.{PolicyName}
use Rattle.records.specs.declared.values.PolicyName.TheVariants.{Confidentiality, Integrity}
use Rattle.records.specs.declared.words.Word.{Word}
use Rattle.records.specs.declared.words.Word.TheVariants.{Policy, Object, Session, Request, Close}

-- the text is the word; shut, since it would compare octet by octet in every goal
unfoldable pub says : List ℕ → List ℕ → Bool
says xs word = bytes_eq xs word

abbrev pub word_of : List ℕ → Result Word FieldCause
word_of xs =
    cond (says xs (codes "policy")) (Ok Policy)
    (cond (says xs (codes "object")) (Ok Object)
    (cond (says xs (codes "session")) (Ok Session)
    (cond (says xs (codes "read")) (Ok (Request Read))
    (cond (says xs (codes "write")) (Ok (Request Write))
    (cond (says xs (codes "both")) (Ok (Request Both))
    (cond (says xs (codes "close")) (Ok Close)
    (Err no_word)))))))

abbrev pub policy_of : List ℕ → Result PolicyName FieldCause
policy_of xs =
    cond (says xs (codes "confidentiality")) (Ok Confidentiality)
    (cond (says xs (codes "integrity")) (Ok Integrity)
    (Err no_word))
