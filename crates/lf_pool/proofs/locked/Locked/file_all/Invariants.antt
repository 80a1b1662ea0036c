use Rattle.std.specs.Prelude.{◌≡◌, ℕ, ◌+◌, ◌++◌, List, length, vec_capacity}
use Rattle.lf_book.specs.Books.{scenario_of}
use Rattle.lf_pool.specs.declared.locked.hand.Found.{Found}
use Rattle.lf_pool.specs.Holds.{AreFiled}
use Rattle.lf_pool.proofs.locked.Locked.file_all.Given as goal

abbrev pub invariant-findings : goal.invariant-findings
invariant-findings g l = record {
  done : List Found;
  count : ℕ;
  rest : l.initial.findings.items ≡ l.findings.items ++ done;
  room : vec_capacity l.findings ≡ vec_capacity l.initial.findings;
  filed : AreFiled done count l.initial.self.book l.self.book;
  held : l.hand.held + length l.initial.findings.items ≡ l.initial.hand.held + length l.findings.items;
  share : l.share.filed ≡ l.initial.share.filed + count;
  scratch : l.share.scratch ≡ l.initial.share.scratch;
  scenario : scenario_of l.self.book ≡ scenario_of l.initial.self.book;
}

abbrev pub decreases-findings : goal.decreases-findings
decreases-findings g l = goal.left-findings g l
