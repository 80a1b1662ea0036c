-- What is said of the texts that a command reads, where it reads standard input alone.
use Rattle.std.proofs.Common.{◌≡◌, ℕ, List, Option, Some, None, codes, ap, subst}
use Rattle.std.specs.Option.{option_map}
use Rattle.lf_words.specs.declared.types.Asked.{Asked}
use Rattle.lf_words.specs.Words.{file_of, protocol_file}
use Rattle.leastfault.specs.Commands.{tree_file}
use Rattle.leastfault.specs.Engines.{OfHeld}
use Rattle.leastfault.specs.Places.{OfPlace, OfTexts, place_of, protocol_place, scenario_place, tree_place}

pub of_input : (a : Asked) (holds : Option (List ℕ) → Option (List ℕ)) (Says : Option (List ℕ) → List ℕ → Option (List ℕ) → Type 0) (input : List ℕ)
    → file_of a ≡ codes "-" → protocol_file a ≡ None → tree_file a ≡ None → holds None ≡ Some input → OfTexts a holds Says → Says None input None
of_input a holds Says input file protocol tree held is =
    let of_text : Option (Option (List ℕ)) → Option (List ℕ) → Option (List ℕ) → Type 0 = λ place known given.
    OfHeld (λ text. OfPlace holds place (Says given text)) known in
    let protocols : protocol_place a ≡ None = ap (option_map Some) protocol in
    let scenarios : scenario_place a ≡ None = ap place_of file in
    let trees : tree_place a ≡ None = ap (option_map place_of) tree in
    let one : of_text (tree_place a) (holds (scenario_place a)) None =
    subst (λ p. OfPlace holds p (λ given. of_text (tree_place a) (holds (scenario_place a)) given)) protocols is in
    let two : of_text None (holds None) None =
    subst (λ p. of_text p (holds None) None) trees (subst (λ p. of_text (tree_place a) (holds p) None) scenarios one) in
    let here = subst (λ known. OfHeld (λ text. Says None text None) known) held two in
    subst (λ text. Says None text None) here.1 here.2
