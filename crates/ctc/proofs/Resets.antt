-- A reset that goes through all four channels.
use Rattle.std.proofs.Common.{◌≡◌, ℕ, ◌≤◌, List, [], ◌∷◌, ◌++◌, length, map, take, drop, refl, sym, ap, ◌∙◌, arith, take_all, length-append}
use Rattle.std.proofs.lemmas.List.{drop_all, append-nil, length-take, length-drop, length-map}
use Rattle.ctc_channel.specs.declared.channel.Channel.{Channel}
use Rattle.ctc_channel.specs.Channels.{channel_reset}
use Rattle.ctc.specs.Chip.{reset_at}

reset_four : (l : List Channel) → length l ≡ 4 → map channel_reset l ≡ reset_at 3 (reset_at 2 (reset_at 1 (reset_at 0 l)))
reset_four (a ∷ b ∷ c ∷ d ∷ []) h = refl
reset_four _ h = absurd (omega arith)

pub all_reset : (l first : List Channel) (i : ℕ) → 4 ≤ i → length first ≡ 4 → take i l ++ map channel_reset (drop i l) ≡ map channel_reset first
    → l ≡ reset_at 3 (reset_at 2 (reset_at 1 (reset_at 0 first)))
all_reset l first i done four kept =
    let same : length l ≡ 4 = grind (arith, ap length kept, length-append {A = Channel}, length-map {A = Channel} {B = Channel}, length-take i l, length-drop i l) in
    sym (rw (take_all i l (omega arith), drop_all i l (omega arith)) (append-nil l)) ∙ kept ∙ reset_four first four
