-- How a place is spelt.
use Rattle.std.specs.Prelude.{ℕ, List, ◌++◌, codes}
use Rattle.std.specs.Fmt.{decimal}
use Rattle.lf_protocol_file.specs.declared.path.Path.{Path}
use Rattle.lf_protocol_file.specs.declared.path.Path.TheVariants as paths
use Rattle.lf_protocol_file.specs.Refusals.{shown_text}
use Rattle.lf_protocol_file.specs.Sections.{listing_name, naming_name, part_name, section_name}

-- keys, and numbers of items, from 1, with points between
abbrev pub place_text : Path → List ℕ
place_text (paths.Key key) = shown_text key
place_text (paths.Section section) = section_name section
place_text (paths.Entry naming key) = naming_name naming ++ (codes "." ++ shown_text key)
place_text (paths.Item listing number) = listing_name listing ++ (codes "." ++ decimal number)
place_text (paths.Part rule part) = codes "rules." ++ (decimal rule ++ (codes "." ++ part_name part))
place_text (paths.PartKey rule key) = codes "rules." ++ (decimal rule ++ (codes "." ++ shown_text key))
