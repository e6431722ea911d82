-- The arguments that the program takes, as the parser is told of them, and what they ask for.
use Rattle.msrp_plan.specs.Common.{ℕ, Bool, true, false, nat_lt, length, List, [], Option, Some, None, codes, option_map, Ok, Err, is_ascii_digit, list_all, Result}
use Rattle.std.specs.Prelude.{◌≡◌, ◌&&◌, ◌||◌, ◌^◌, ◌∷◌, if◌then◌else◌, MatchResult}
use Rattle.std.specs.Str.Parse.{digits_value}
use Rattle.clap.specs.Words.{App, IsAmong, Kinds, Row, Rule, Text, first_of, new_app, new_rule, with_rule}
use Rattle.clap.specs.declared.error.kind.ErrorKind.{ErrorKind}
use Rattle.clap.specs.declared.error.kind.ErrorKind.TheVariants.{DisplayVersion}
use Rattle.msrp_cli.specs.Arguments.{fault_of_words, flag, help_unless, is_given, paths_of, valued, wanted}
use Rattle.msrp_faults.specs.declared.faults.CliFault.{CliFault}
use Rattle.msrp_faults.specs.declared.faults.CliFault.TheVariants.{Usage}
use Rattle.msrp_view.specs.declared.cli.Cmd.{Cmd}
use Rattle.msrp_view.specs.declared.cli.Cmd.TheVariants.{Help, Version, Show, WhyPlan}
use Rattle.msrp_picture.specs.declared.windows.Asked.{Asked}
use Rattle.msrp_picture.specs.declared.windows.Style.{Style}
use Rattle.msrp_view.specs.declared.cli.View.{View}
use Rattle.msrp_view.specs.declared.cli.View.TheVariants.{Export, Page, Picture, Why}
use Rattle.clap.specs.declared.builder.action.ArgAction.TheVariants as action
use Rattle.msrp_export.specs.declared.formats.Format.TheVariants as format
use Rattle.msrp_picture.specs.declared.windows.Style.TheVariants as style

-- ---- arguments
-- the flag that asks for the version
abbrev pub version : Rule
version = record (new_rule (codes "version")) { long = Some (codes "version"); action = Some action.Version }

-- all arguments; the trace need not be given
unfoldable pub grammar : App
grammar =
    let flags = with_rule (with_rule (new_app (codes "msrp_view")) (flag (codes "text"))) (flag (codes "svg")) in
    let ticks = with_rule (with_rule flags (valued (codes "from"))) (valued (codes "to")) in
    let dumps = with_rule (with_rule (with_rule ticks (flag (codes "why"))) (flag (codes "vcd"))) (flag (codes "gtkw")) in
    let others = with_rule dumps (flag (codes "perfetto")) in
    let pages = with_rule (with_rule others (flag (codes "html"))) (valued (codes "tick")) in
    with_rule (with_rule (with_rule pages version) (wanted (codes "PLAN"))) (new_rule (codes "TRACE"))

-- ---- what is asked for, by what the parser found
-- text, unless SVG is asked for; not both
abbrev pub style_of : Bool → Bool → Result Style CliFault
style_of text false = Ok style.Text
style_of false true = Ok style.Svg
style_of true true = Err Usage

-- the tick of an argument, if it is given: digits alone, which write a number of 32 bits
abbrev pub tick_of : Option Text → Result (Option ℕ) CliFault
tick_of None = Ok None
tick_of (Some word) = if nat_lt 0 (length word) && (list_all is_ascii_digit word && nat_lt (digits_value 10 word) (2 ^ 32)) then Ok (Some (digits_value 10 word)) else Err Usage

-- the style and the ticks of a picture, if none of them is refused
abbrev pub asked_by : Result Style CliFault → Result (Option ℕ) CliFault → Result (Option ℕ) CliFault → Result Asked CliFault
asked_by (Ok style) (Ok from) (Ok to) = Ok (record { style = style; from = from; to = to })
asked_by _ _ _ = Err Usage

-- the same, of the arguments that were found
abbrev pub asked_of : List Row → Result Asked CliFault
asked_of rows = asked_by (style_of (is_given (codes "text") rows) (is_given (codes "svg") rows)) (tick_of (first_of (codes "from") rows)) (tick_of (first_of (codes "to") rows))

-- the arguments say how to draw, or which ticks
abbrev pub says_picture : List Row → Bool
says_picture rows = is_given (codes "text") rows || (is_given (codes "svg") rows || (is_given (codes "from") rows || is_given (codes "to") rows))

-- words, a format, a page or a picture: only one of them, and the length of a tick only for a page
abbrev pub view_by : Bool → Bool → Bool → Bool → Bool → Bool → Bool → Result Asked CliFault → Result View CliFault
view_by true false false false false false false asked = Ok Why
view_by false true false false false false false asked = Ok (Export format.Vcd)
view_by false false true false false false false asked = Ok (Export format.Gtkw)
view_by false false false true false false false asked = Ok (Export format.Perfetto)
view_by false false false false true false tick asked = Ok Page
view_by false false false false false picture false (Ok asked) = Ok (Picture asked)
view_by _ _ _ _ _ _ _ asked = Err Usage

-- what the arguments ask for
abbrev pub view_of : List Row → Result View CliFault
view_of rows =
    view_by (is_given (codes "why") rows) (is_given (codes "vcd") rows) (is_given (codes "gtkw") rows) (is_given (codes "perfetto") rows) (is_given (codes "html") rows) (says_picture rows)
    (is_given (codes "tick") rows) (asked_of rows)

-- ---- answers
-- a plan alone is to be explained
abbrev pub explains_plan : View → Option Text → Bool
explains_plan Why None = true
explains_plan _ _ = false

-- the command shows that, with the length of a tick if it is given; it is a usage fault where a
-- path is missing, or both are standard input
abbrev pub IsShown : View → List Row → Result Cmd CliFault → Type 0
IsShown view rows (Ok (Show v plan trace tick)) =
    (v ≡ view) × (explains_plan view (first_of (codes "TRACE") rows) ≡ false) × (paths_of rows ≡ Some (plan.now, trace.now)) × (option_map (λ word. word.now) tick ≡ first_of (codes "tick") rows)
IsShown view rows (Ok (WhyPlan plan)) = (explains_plan view (first_of (codes "TRACE") rows) ≡ true) × (first_of (codes "PLAN") rows ≡ Some plan.now)
IsShown view rows (Ok _) = ⊥
IsShown view rows (Err fault) =
    (fault ≡ Usage)
    × (explains_plan view (first_of (codes "TRACE") rows) ≡ true → first_of (codes "PLAN") rows ≡ None)
    × (explains_plan view (first_of (codes "TRACE") rows) ≡ false → paths_of rows ≡ None)

-- the command is the one that is asked for, if one is
abbrev pub IsAsked : List Row → Result Cmd CliFault → Type 0
IsAsked rows result = MatchResult (view_of rows) (λ view. IsShown view rows result) (λ fault. result ≡ Err fault)

-- the version or the help, where a refusal of the parser asks for it, which is no fault
abbrev pub answer_to : ErrorKind → Result Cmd CliFault
answer_to DisplayVersion = Ok Version
answer_to kind = help_unless Help (fault_of_words kind)

-- the answer to arguments that the parser refuses by these kinds of fault, or takes
abbrev pub IsAnswered : Kinds → List Row → Result Cmd CliFault → Type 0
IsAnswered [] rows result = IsAsked rows result
IsAnswered (k ∷ kinds) rows result = (j : ErrorKind) × IsAmong j (k ∷ kinds) × (result ≡ answer_to j)
