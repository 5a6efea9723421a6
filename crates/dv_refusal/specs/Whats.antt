-- What an organisation may hold only so many of, and the word for it.
use Rattle.std.specs.Prelude.{ℕ, List, codes}
use Rattle.dv_refusal.specs.declared.what.What.{What}
use Rattle.dv_refusal.specs.declared.what.What.TheVariants as what

-- the word that a refusal says it by
unfoldable pub what_word : What → List ℕ
what_word what.Row = codes "row"
what_word what.Grant = codes "grant"
what_word what.Unit = codes "unit"
what_word what.User = codes "user"
what_word what.Team = codes "team"
what_word what.Member = codes "member"
what_word what.Role = codes "role"
what_word what.Version = codes "version"
what_word what.Id = codes "id"
