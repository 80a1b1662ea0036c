use Rattle.std.proofs.Common.{rules}
use Rattle.leastfault_doubt.proofs.ground.questions_for.Goals as goal

pub returns : goal.returns
returns c = record {
  sets = c.in_ok-sets.sets.items;
  singles = (search rules);
  ground = record {
    mutations = c.as_slice-3.result;
    taken = c.as_slice-4.result;
    starting = c.as_slice-5.result;
    runs = c.len.result;
    stakes = c.as_slice-6.result;
    bounds = c.setting-setting.result.now.spec;
    has_spread = c.has_spread.result;
    is_own = c.is_some.result;
  };
  changes = (search rules);
  taken = (search rules);
  starting = (search rules);
  runs = (search rules);
  bounds = (search rules);
  spread = (search rules);
  own = (search rules);
  parts = (search rules);
  asked = c.in_ok-asked.ensures;
}
