use Rattle.probe.specs.Hooks.{all_but}
use Rattle.probe.proofs.all_but.Goals as goal

pub returns : goal.returns
unfolding all_but
returns c =
    record {
      value = c.rising.ensures.value;
      list_after = c.rising.ensures.list_after;
    }
