use Rattle.std.proofs.Common.{◌≡◌, ◌∙◌, refl, ap, ℕ, ◌||◌, List, [], ◌∷◌, map, Bor, bytes_eq}
use Rattle.std.specs.List.{list_any}
use Rattle.dv_form.specs.Spellings.{is_among}
use Rattle.dv_form.proofs.spelling.is_among.Goals as goal

any-now : (word : List ℕ) (words : List (Bor (List ℕ))) → list_any (λ w. bytes_eq w.now word) words ≡ list_any (λ w. bytes_eq w word) (map (λ w. w.now) words)
any-now word [] = refl
any-now word (w ∷ words) = ap (λ rest. bytes_eq w.now word || rest) (any-now word words)

pub returns : goal.returns
unfolding is_among
returns c = c.contains.ensures.value ∙ any-now c.args.word.now c.args.words.now
