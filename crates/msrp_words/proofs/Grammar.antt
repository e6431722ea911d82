-- What the parser was told, command by command.
use Rattle.msrp_plan.proofs.Common.{Bool, true, false, not, List, [], Option, Some, None, Result, option_map, refl, ap, sym}
use Rattle.std.proofs.Common.{◌≡◌, ◌∙◌, ◌&&◌, ◌∷◌, ap₂}
use Rattle.clap.proofs.OnLiterals.{clap_on_literals}
use Rattle.clap.specs.Words.{AddsSubcommand, App, IsAmong, Kinds, Row, Text, app_of, found_of, is_simple, is_simple_and_free, rows_of, subcommand_name_of, subcommand_rows_of, with_subcommand}
use Rattle.clap.specs.declared.builder.command.Command.{Command}
use Rattle.clap.specs.declared.error.kind.ErrorKind.{ErrorKind}
use Rattle.clap.specs.declared.parser.matches.ArgMatches.{ArgMatches}
use Rattle.msrp_words.specs.CommandLine.{IsAnswered, IsChosen, answer_to, grammar}
use Rattle.msrp_words.specs.Words.{IsAsked}
use Rattle.msrp_words.specs.declared.cli.Cmd.{Cmd}
use Rattle.msrp_faults.specs.declared.faults.CliFault.{CliFault}

-- a plain command has no argument for its subcommands too
own_args : (a b c d : Bool) → (a && (b && (not c && d))) ≡ true → c ≡ false
own_args true true false d e = refl
own_args true true true d e = sym e
own_args true false false d e = refl
own_args true false true d e = sym e
own_args false b false d e = refl
own_args false b true d e = sym e

-- one subcommand more
pub adds_command : (old sub new : Command) (words more : App) → AddsSubcommand old sub new → app_of old ≡ words → app_of sub ≡ more → more.top.is_plain ≡ true → app_of new ≡ with_subcommand words more.top
adds_command old sub new words more h told is plain =
    h.shape (own_args _ _ _ _ (ap (λ (a : App). a.top.is_plain) is ∙ plain)) ∙ ap₂ with_subcommand told (ap (λ (a : App). a.top) is)

-- the parser can tell of all words what it gives for them
pub grammar_simple : is_simple grammar ≡ true
unfolding clap_on_literals grammar
grammar_simple = refl

pub grammar_free : is_simple_and_free grammar ≡ true
unfolding clap_on_literals grammar
grammar_free = refl

-- ---- the command that is asked for
map_both : {A X Y : Type 0} (f : A → X) (g : A → Y) (o : Option A) → option_map f o ≡ option_map (λ (p : X × Y). p.0) (option_map (λ b. (f b, g b)) o)
map_both f g None = refl
map_both f g (Some b) = refl

names_are : (m : ArgMatches) → subcommand_name_of m ≡ option_map (λ (p : Text × List Row). p.0) (subcommand_rows_of m)
names_are m = map_both _ _ _

both_told : {X Y : Type 0} (q : Option (X × Y)) (x : X) (y : Y) → Some x ≡ option_map (λ (p : X × Y). p.0) q → Some y ≡ option_map (λ (p : X × Y). p.1) q → q ≡ Some (x, y)
both_told None x y e f = absurd (cc)
both_told (Some p) x y e f = let a : p.0 ≡ x = cc in let b : p.1 ≡ y = cc in ap₂ (λ u v. Some (u, v)) a b

pub chosen_named : (m : ArgMatches) (word : Text) (words : ArgMatches) (result : Result Cmd CliFault) → Some word ≡ subcommand_name_of m → Some (rows_of (found_of words)) ≡ option_map (λ (p : Text × List Row). p.1) (subcommand_rows_of m)
    → IsAsked word (rows_of (found_of words)) result → IsChosen (subcommand_rows_of m) result
chosen_named m word words result named rows h = rw (both_told (subcommand_rows_of m) word (rows_of (found_of words)) (named ∙ names_are m) rows) h

-- what refused words are answered
pub answered_fault : (kinds : Kinds) (given : Option (Text × List Row)) (k : ErrorKind) (result : Result Cmd CliFault) → IsAmong k kinds → result ≡ answer_to k → IsAnswered kinds given result
answered_fault [] given k result among e = absurd among
answered_fault (x ∷ kinds) given k result among e = (k, among, e)
