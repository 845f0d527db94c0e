-- Lines that are written, and lists of holders.
use Rattle.std.proofs.Common.{◌≡◌, ◌∙◌, ℕ, ◌+◌, ◌<◌, List, [], ◌∷◌, ◌++◌, length, get_or, take, Result, Ok, Err, refl, sym, ap, append_assoc, add-one}
use Rattle.std.specs.Prelude.{OnOk, codes}
use Rattle.std.proofs.Math.Seq.{take-suc}
use Rattle.std.proofs.lemmas.List.{append-nil}
use Rattle.nbt_name.specs.declared.addr.Kind.TheVariants.{Unique}
use Rattle.nbt_text.specs.Lines.{newline}
use Rattle.nbt_world.specs.declared.ends.Holder.{Holder}
use Rattle.nbt_sim.specs.Script.{holder_text, holders_text, holders_line, other_holders_text}

-- a line was written
pub line_written : {E : Type 0} (r : Result (Unit {0}) E) (P : List ℕ → Type 0) (old new text : List ℕ) → OnOk r (new ≡ old ++ text ++ newline) → P text → OnOk r ((x : List ℕ) × (new ≡ old ++ x ++ newline) × P x)
line_written (Ok u) P old new text h p = (text, h, p)
line_written (Err e) P old new text h p = tt

-- one holder more
pub other_holders_text-append : (a b : List Holder) → other_holders_text (a ++ b) ≡ other_holders_text a ++ other_holders_text b
other_holders_text-append [] b = refl
other_holders_text-append (h ∷ hs) b = ap (λ (x : List ℕ). codes ", " ++ holder_text h ++ x) (other_holders_text-append hs b) ∙ sym (append_assoc (codes ", " ++ holder_text h) (other_holders_text hs) (other_holders_text b))

abbrev pub nobody : Holder
nobody = record { node = 0; kind = Unique }

regrouped : (a b c d : List ℕ) → a ++ b ++ c ++ d ≡ a ++ (b ++ (c ++ d ++ []))
regrouped a b c d = simp (append_assoc, append-nil)

pub one_holder_more : (others : List Holder) (i : ℕ) (d : Holder) (old now comma new : List ℕ) → i < length others → now ≡ old ++ other_holders_text (take i others) → comma ≡ now ++ codes ", " → new ≡ comma ++ holder_text (get_or others i d)
    → new ≡ old ++ other_holders_text (take (i + 1) others)
one_holder_more others i d old now comma new h e f g =
    let one = other_holders_text-append (take i others) (get_or others i d ∷ []) in
    rw (g, f, e, add-one, take-suc others i d h, one) (regrouped old (other_holders_text (take i others)) (codes ", ") (holder_text (get_or others i d)))

pub holders_written : (old a b c d new name : List ℕ) (holders : List Holder) → a ≡ old ++ codes "holders " → b ≡ a ++ name → c ≡ b ++ codes ": " → d ≡ c ++ holders_text holders → new ≡ d ++ newline
    → new ≡ old ++ holders_line name holders
holders_written old a b c d new name holders e f g h i = rw (i, h, g, f, e) (simp append_assoc)
