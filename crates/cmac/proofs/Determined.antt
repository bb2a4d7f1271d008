-- No second outcome meets a contract of this crate.
-- Assumes nothing.
use mathlib.Core.Path.{◌≡◌, ◌∙◌, sym}
use mathlib.Core.List.{List}
use Prim.Native.Nat.{ℕ}
use Rattle.cmac.specs.Mac.{cmac}
use Rattle.cmac.specs.Tags.{Ready, mac_by, mac64_by, tags_by}
use Rattle.cmac.specs.declared.Prepared.{Prepared}

pub tag_determined : (key m a b : List ℕ) → a ≡ cmac key m → b ≡ cmac key m → a ≡ b
tag_determined key m a b p q = p ∙ sym q

pub mac_determined : (key : Prepared) (m a b : List ℕ) → a ≡ mac_by key m → b ≡ mac_by key m → a ≡ b
mac_determined key m a b p q = p ∙ sym q

pub mac64_determined : (key : Prepared) (m a b : List ℕ) → a ≡ mac64_by key m → b ≡ mac64_by key m → a ≡ b
mac64_determined key m a b p q = p ∙ sym q

pub tags_determined : (key : Prepared) (ms : List ℕ) (n : ℕ) (a b : List ℕ) → a ≡ tags_by key ms n → b ≡ tags_by key ms n → a ≡ b
tags_determined key ms n a b p q = p ∙ sym q

pub prepare_determined : (key : List ℕ) (a b : Prepared) → Ready key a → Ready key b → a ≡ b
prepare_determined key a b p q = p.made ∙ sym q.made
