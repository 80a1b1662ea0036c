-- What a text asks for, where the protocol of a file may be known besides the shipped ones.
use Rattle.std.specs.Prelude.{List, ℕ, Option, None, Some}
use Rattle.std.specs.Borrow.{Bor}
use Rattle.std.specs.Option.{option_map}
use Rattle.lf_own_scenario.specs.Scenarios.{IsRefusedWith, IsTextWith}
use Rattle.lf_scenario.specs.declared.error.ScenarioError.{ScenarioError}
use Rattle.lf_outcome.specs.declared.scenario.Scenario.{Scenario}
use Rattle.lf_scenario.specs.Scenarios.{IsRefused, IsText}
use Rattle.lf_protocol_file.specs.declared.declared.Declared.{Declared}

-- the protocol of a file, where one is known
abbrev pub known_of : Option (Bor Declared) → Option Declared
known_of known = option_map (λ file. file.now) known

-- the scenario of a text: of a shipped protocol, or of the file's
abbrev pub IsTextOf : Option Declared → Scenario → List ℕ → Type 0
IsTextOf None s text = IsText s text
IsTextOf (Some file) s text = IsTextWith file s text

-- why a text is none
abbrev pub IsRefusedOf : Option Declared → List ℕ → ScenarioError → Type 0
IsRefusedOf None text e = IsRefused text e
IsRefusedOf (Some file) text e = IsRefusedWith file text e
