-- The entries of a log.
use Rattle.policies.specs.declared.verdicts.Verdict.{Verdict}
use Rattle.reference.specs.declared.entries.Entry.{Entry}
use Rattle.reference.specs.declared.entries.Request.{Request}

-- the entry of a request that was decided
abbrev pub entry : Request → Verdict → Entry
entry r v = record { session = r.session; object = r.object; kind = r.kind; verdict = v }
