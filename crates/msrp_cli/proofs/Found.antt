-- What the parser found is what its rows say.
use Rattle.msrp_plan.proofs.Common.{Bool, true, false, Option, Some, None, option_map, slice_get, refl, ap, sym, bytes_eq, slice_get-map}
use Rattle.std.proofs.Common.{◌≡◌, ◌∙◌, ◌↔◌, find, option_and_then}
use Rattle.clap.proofs.WalkLemmas.{find_row}
use Rattle.clap.specs.Facts.{Entry}
use Rattle.clap.specs.Matches.{matched_of}
use Rattle.clap.specs.Walk.{row_of}
use Rattle.clap.specs.Words.{Text, first_of, first_value, rows_of}
use Rattle.clap.specs.declared.parser.matches.Found.{Found}
use Rattle.clap.specs.declared.parser.matches.ValueSource.{ValueSource}
use Rattle.clap.specs.declared.parser.matches.ValueSource.TheVariants.{CommandLine, DefaultValue}
use Rattle.msrp_cli.specs.Arguments.{is_from_words, source_of}

source_at : (entry : Option Entry) → option_and_then (λ a. a.source) (option_map (λ e. e.1) entry) ≡ option_and_then (λ r. r.source) (option_map row_of entry)
source_at None = refl
source_at (Some e) = refl

pub source_is : (found : Found) (id : Text) → option_and_then (λ a. a.source) (matched_of found id) ≡ source_of id (rows_of found)
source_is found id = source_at (find (λ e. bytes_eq e.0.now id) found.entries.items) ∙ ap (λ r. option_and_then (λ r. r.source) r) (sym (find_row found.entries.items id))

-- a source is the words exactly if it equals them
pub equals_words : (source : Option ValueSource) (b : Bool) → (b ≡ true ↔ source ≡ Some CommandLine) → b ≡ is_from_words source
equals_words (Some CommandLine) b h = h.1 refl
equals_words (Some DefaultValue) true h = let bad : Some DefaultValue ≡ Some CommandLine = h.0 refl in cc
equals_words (Some DefaultValue) false h = refl
equals_words None true h = let bad : None ≡ Some CommandLine = h.0 refl in cc
equals_words None false h = refl

first_at : (entry : Option Entry) → option_and_then (λ a. option_map (λ s. s.now) (slice_get a.vals.items 0)) (option_map (λ e. e.1) entry) ≡ option_and_then (λ r. slice_get r.values 0) (option_map row_of entry)
first_at None = refl
first_at (Some e) = sym (slice_get-map (λ s. s.now) e.1.vals.items 0)

pub first_is : (found : Found) (id : Text) → first_value found id ≡ first_of id (rows_of found)
first_is found id = first_at (find (λ e. bytes_eq e.0.now id) found.entries.items) ∙ ap (λ r. option_and_then (λ r. slice_get r.values 0) r) (sym (find_row found.entries.items id))
