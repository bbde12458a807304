use Rattle.reference.specs.declared.refusals.Refusal.TheVariants.{NoFreePlace}
use Rattle.access_log.proofs.Prefixes.{place_free, back_written, rest_written}
use Rattle.access_log.proofs.logs.Log.append.Goals as goal

pub returns-clause-history : goal.returns-clause-history
returns-clause-history c =
    rw (← c.self.view_is, place_free c.self.inside.places.now c.self.inside.used NoFreePlace c.if-at-self.false)
    (back_written c.self.inside.places.now _ c.self.inside.used _ c.if-at-self.false c.write_first.ensures)

pub returns-clause-blank : goal.returns-clause-blank
returns-clause-blank c =
    rw (← c.self.view_is, place_free c.self.inside.places.now c.self.inside.used NoFreePlace c.if-at-self.false)
    (rest_written c.self.inside.places.now _ c.self.inside.used _ c.if-at-self.false c.write_first.ensures)
