-- What is split off the front of bytes, in the terms of `Reading`.
use Rattle.std.specs.Prelude.{◌≡◌, ℕ, ◌<◌, List, [], ◌∷◌, length, drop, Some, None, Option, ◌==◌}
use Rattle.std.specs.Borrow.{Bor}
use Rattle.session_format.specs.Reading.{calls_in, well_formed}
use Rattle.session_format.specs.declared.encoding.Call.{Call}

-- The bytes begin with this call, well formed, and the rest comes after its three bytes.
pub record Begins (bytes : List ℕ) (call : Call) (rest : List ℕ) : Type 0 where
  pub calls : calls_in bytes ≡ call ∷ calls_in rest
  pub formed : well_formed bytes ≡ well_formed rest
  pub follows : rest ≡ drop 3 bytes
  pub shorter : length rest < length bytes

-- The bytes begin with no well-formed call, so that they are well formed only if there is no byte.
pub record BeginsNone (bytes : List ℕ) : Type 0 where
  pub calls : calls_in bytes ≡ []
  pub formed : well_formed bytes ≡ (length bytes == 0)

-- what is split off the front of the bytes: a call, with the rest of the bytes, or none
abbrev pub Splits : List ℕ → Option (Call × Bor (List ℕ)) → Type 0
Splits bytes None = BeginsNone bytes
Splits bytes (Some p) = Begins bytes p.0 p.1.now
