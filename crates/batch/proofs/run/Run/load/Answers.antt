use Rattle.std.proofs.Common.{◌≡◌, [], None, ◌∙◌}
use Rattle.std.proofs.lemmas.Result.{IfOk-weaker}
use Rattle.monitor.specs.View.{made_over}
use Rattle.records.specs.Lines.{record_of}
use Rattle.batch.specs.Batch.{blank_rows, blank_places}
use Rattle.batch.specs.Loading.{loaded_of, loading}
use Rattle.batch.specs.Run.{finished}
use Rattle.batch.specs.Serving.{serving}
use Rattle.batch.proofs.Runs.{run_starts}
use Rattle.batch.proofs.run.Run.load.Goals as goal

pub returns-in-None : goal.returns-in-None
returns-in-None g c =
    let model = g.P.Policy.model in
    let objects = c.loop-line.objects.items in
    let given = c.in-Some.ensures.steps in
    let served = c.in_ok-serve_line-in-None.ensures in
    let starts : None ≡ loaded_of model objects (record_of c.in-Some.line.octets.now) = cc (c.in_ok-outcome.ensures.outcome, c.in-None.is) in
    let kept : c.load_line.new.objects.items ≡ objects = rw c.in-None.is at c.in_ok-outcome.ensures.starts in
    let made : c.new-monitor.result ≡ made_over objects blank_rows blank_places =
    cc (c.new-monitor.ensures.made, c.deref.ensures.value, c.blank_rows-rows.ensures, c.blank_places-places.ensures) in
    let rest = run_starts model blank_rows blank_places objects c.new-monitor.result c.serve_line.new.monitor
    c.loop-line.self c.serve_line.new.self c.next.new.self c.in-Some.line
    given.0 given.1 given.2 served.written served.left starts made served.after in
    IfOk-weaker c.serve.result
    (λ out. out.items ≡ finished (serving model c.serve_line.new.monitor) c.serve_line.new.self)
    (λ out. out.items ≡ finished (loading model blank_rows blank_places []) c.args.self)
    (λ out e. e ∙ (rest ∙ c.loop-line.invariant)) c.serve.ensures
