-- What a request has that is read: each member that must be there, and of those that are there each in its form.
use Rattle.std.specs.Prelude.{◌≡◌, List, Bool, true, not, Some, None}
use Rattle.std.specs.List.{list_all}
use Rattle.std.specs.Option.{is_some}
use Rattle.serde_json.specs.Data.{Data}
use Rattle.serde_json.specs.Find.{get}
use Rattle.dv_form.specs.Forms.{Member}
use Rattle.dv_form.specs.Walk.{first_fault, further}
use Rattle.dv_wire.specs.declared.grammar.Rule.{Rule}
use Rattle.dv_wire.specs.declared.grammar.Rule.TheVariants as rule
use Rattle.dv_wire.specs.declared.verb.Verb.{Verb}
use Rattle.dv_wire.specs.Grammar.{rules, members_for}

-- a member is there in its form, or it may be missing
unfoldable pub is_met : Data → Member Rule → Bool
is_met d m = elim (get m.name d) [ None ↦ not m.needed | Some v ↦ not (is_some (first_fault rules v m.form)) ]

-- the members that every request has, and those of its message
pub record IsSpelled (d : Data) : Type 0 where
  pub own : list_all (is_met d) (rules rule.Request).members ≡ true
  pub further : (more : List (Member Rule)) → further (rules rule.Request) d ≡ Some more → list_all (is_met d) more ≡ true

-- each member of a message is there in its form, or may be missing
unfoldable pub has_members : Verb → Data → Bool
has_members verb d = list_all (is_met d) (members_for verb)
