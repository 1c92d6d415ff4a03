use Rattle.parting.proofs.Bounding.{view_is}
use Rattle.parting.proofs.view.View.of.Goals as goal

pub returns : goal.returns
returns c =
    view_is c.args.role c.args.transitions.now c.of-acts.result c.silent.result c.back.result c.states.result c.closure-leading.result
    c.of-acts.ensures c.silent.ensures c.back.ensures c.states.ensures c.closure-leading.ensures.value
