-- The empty text has no characters.
use Rattle.std.proofs.Common.{◌≡◌, [], chars}
use Rattle.std.proofs.lemmas.Str.{chars-nil}

pub no_characters : chars [] ≡ []
no_characters = chars-nil
