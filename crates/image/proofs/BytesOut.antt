-- Bytes that are written one after another.
use Rattle.std.proofs.Common.{◌≡◌, ℕ, ◌+◌, ◌<◌, List, [], ◌∷◌, ◌++◌, length, get_or, take, pos, Ok, Err, Result, sym, refl, ap, ◌∙◌, subst, append_assoc, append-nil}
use Rattle.std.proofs.lemmas.List.{take_more}
use Rattle.model.specs.declared.node.Node.{Node}
use Rattle.model.specs.Nodes.{plain, FitsParts}
use Rattle.model.specs.Stores.{AllFitParts}
use Rattle.model.specs.Images.{joined}
use Rattle.laws.proofs.ImageRuns.{fit_append}
use Rattle.image.specs.Pushes.{Pushed}

-- a node of zeros
abbrev pub blank : Node
blank = plain 0 0 0 (pos 0)

-- what is joined of two lists
pub joined_append : {X : Type 0} (f : X → List ℕ) (xs ys : List X) → joined f (xs ++ ys) ≡ joined f xs ++ joined f ys
joined_append f [] ys = refl
joined_append f (x ∷ xs) ys = ap (λ v. f x ++ v) (joined_append f xs ys) ∙ sym (append_assoc (f x) (joined f xs) (joined f ys))

-- one more thing of a list, behind those before it
pub one_more : {X : Type 0} (f : X → List ℕ) (xs : List X) (i : ℕ) (d : X) (o p q : List ℕ) → i < length xs → p ≡ o ++ joined f (take i xs) → q ≡ p ++ f (get_or xs i d) → q ≡ o ++ joined f (take (i + 1) xs)
one_more f xs i d o p q h e g =
    let more : joined f (take (i + 1) xs) ≡ joined f (take i xs) ++ f (get_or xs i d) =
    ap (joined f) (take_more xs i d h) ∙ (joined_append f (take i xs) (get_or xs i d ∷ []) ∙ ap (λ v. joined f (take i xs) ++ v) (append-nil (f (get_or xs i d)))) in
    g ∙ (ap (λ v. v ++ f (get_or xs i d)) e ∙ (append_assoc o (joined f (take i xs)) (f (get_or xs i d)) ∙ ap (λ v. o ++ v) (sym more)))

-- five parts, one after another
pub five : (o p q r s t k f a b n : List ℕ) → p ≡ o ++ k → q ≡ p ++ f → r ≡ q ++ a → s ≡ r ++ b → t ≡ s ++ n → t ≡ o ++ (k ++ (f ++ (a ++ (b ++ n))))
five o p q r s t k f a b n e₁ e₂ e₃ e₄ e₅ =
    e₅ ∙ (ap (λ v. v ++ n) (e₄ ∙ ap (λ v. v ++ b) (e₃ ∙ ap (λ v. v ++ a) (e₂ ∙ ap (λ v. v ++ f) e₁)))
    ∙ simp append_assoc)

-- the last of some appends ends them all
pub ended_by : {X E : Type 0} (r : Result X E) (o all s bytes t : List ℕ) → Pushed r s bytes t → (t ≡ s ++ bytes → t ≡ o ++ all) → Pushed r o all t
ended_by (Ok u) o all s bytes t h g = g h
ended_by (Err d) o all s bytes t h g = tt

-- one more node that fits
pub fit_more : (run : List Node) (i : ℕ) (d : Node) → i < length run → AllFitParts (take i run) → FitsParts (get_or run i d) → AllFitParts (take (i + 1) run)
fit_more run i d h p q = subst AllFitParts (sym (take_more run i d h)) (fit_append (take i run) (get_or run i d ∷ []) p (q, tt))
