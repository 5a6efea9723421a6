-- Each operator and each way to join has one word.
use Rattle.std.specs.Prelude.{ℕ, List, [], ◌∷◌, Option, codes, find, bytes_eq}
use Rattle.dv_query.specs.declared.link.Join.{Join}
use Rattle.dv_query.specs.declared.link.Join.TheVariants.{Inner, Left, Exists}
use Rattle.dv_query.specs.declared.operator.Operator.{Operator}
use Rattle.dv_query.specs.declared.operator.Operator.TheVariants as op

-- the word for a way to join
unfoldable pub join_word : Join → List ℕ
join_word Inner = codes "inner"
join_word Left = codes "left"
join_word Exists = codes "exists"

-- the ways to join
abbrev pub joins : List Join
joins = Inner ∷ Left ∷ Exists ∷ []

-- the way to join that a word says
unfoldable pub join_of : List ℕ → Option Join
join_of word = find (λ join. bytes_eq (join_word join) word) joins

-- the word for an operator
unfoldable pub operator_word : Operator → List ℕ
operator_word op.Eq = codes "eq"
operator_word op.Ne = codes "ne"
operator_word op.Gt = codes "gt"
operator_word op.Ge = codes "ge"
operator_word op.Lt = codes "lt"
operator_word op.Le = codes "le"
operator_word op.Between = codes "between"
operator_word op.NotBetween = codes "not-between"
operator_word op.In = codes "in"
operator_word op.NotIn = codes "not-in"
operator_word op.Like = codes "like"
operator_word op.NotLike = codes "not-like"
operator_word op.Begins = codes "begins"
operator_word op.NotBegins = codes "not-begins"
operator_word op.Ends = codes "ends"
operator_word op.NotEnds = codes "not-ends"
operator_word op.Contains = codes "contains"
operator_word op.NotContains = codes "not-contains"
operator_word op.On = codes "on"
operator_word op.OnOrBefore = codes "on-or-before"
operator_word op.OnOrAfter = codes "on-or-after"
operator_word op.Today = codes "today"
operator_word op.Yesterday = codes "yesterday"
operator_word op.Tomorrow = codes "tomorrow"
operator_word op.LastDays = codes "last-days"
operator_word op.NextDays = codes "next-days"
operator_word op.Me = codes "me"
operator_word op.NotMe = codes "not-me"
operator_word op.MyTeams = codes "my-teams"
operator_word op.MeOrMyTeams = codes "me-or-my-teams"
operator_word op.Null = codes "null"
operator_word op.NotNull = codes "not-null"

-- the operators
abbrev pub operators : List Operator
operators =
    op.Eq ∷ op.Ne ∷ op.Gt ∷ op.Ge ∷ op.Lt ∷ op.Le ∷ op.Between ∷ op.NotBetween ∷ op.In ∷ op.NotIn ∷ op.Like ∷ op.NotLike ∷ op.Begins ∷ op.NotBegins ∷ op.Ends ∷ op.NotEnds
    ∷ op.Contains ∷ op.NotContains ∷ op.On ∷ op.OnOrBefore ∷ op.OnOrAfter ∷ op.Today ∷ op.Yesterday ∷ op.Tomorrow ∷ op.LastDays ∷ op.NextDays ∷ op.Me ∷ op.NotMe ∷ op.MyTeams ∷ op.MeOrMyTeams ∷ op.Null ∷ op.NotNull ∷ []

-- the operator that a word says
unfoldable pub operator_of : List ℕ → Option Operator
operator_of word = find (λ operator. bytes_eq (operator_word operator) word) operators
