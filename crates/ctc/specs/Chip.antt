-- The registers of a CTC, and what each call makes of them.
use Rattle.std.specs.Prelude.{◌≡◌, ℕ, ◌+◌, ◌*◌, ◌/◌, Bool, cond, List, [], ◌∷◌, Some, None, Ok, Err, Option, Result, ◌==◌, nat_lt, slice_index_or, slice_set}
use Rattle.ranks.specs.declared.set.RankSet.{RankSet}
use Rattle.ranks.specs.Ranks.{bit, highest}
use Rattle.ranks.specs.RankSets.{ranks, set_of, no_ranks, inserted, removed, intersected}
use Rattle.card.specs.declared.refusals.Refusal.{Refusal}
use Rattle.card.specs.declared.refusals.Refusal.TheVariants.{PortNotTaken, NoSuchLine, ByteNotAwaited}
use Rattle.ctc_channel.specs.declared.channel.Channel.{Channel}
use Rattle.ctc.specs.declared.chip.Role.{Role}
use Rattle.ctc.specs.declared.chip.Role.TheVariants.{Constant, ControlWord, VectorHead}
use Rattle.ctc.specs.declared.chip.Ctc.{Ctc}
use Rattle.ctc.specs.Numbers.{channel_of, rank_of, channel_ranked}
use Rattle.ctc_channel.specs.ControlWords.{is_control_word}
use Rattle.ctc_channel.specs.Channels.{new_channel, channel_reset, constant_taken, control_taken, channel_clocked, clock_raises, line_changed, line_raises}

-- the four ports from the card's port with its low two bits cleared, one a channel
abbrev pub takes : Ctc → ℕ → Bool
takes c port = port / 4 == c.port / 4

abbrev pub channel_at : ℕ → Ctc → Channel
channel_at k c = slice_index_or c.channels k new_channel

-- the ranks of a CTC are 0 to 3
abbrev pub four_ranks : RankSet
four_ranks = set_of 15

abbrev pub waiting_set : Ctc → RankSet
waiting_set c = intersected c.waiting four_ranks

abbrev pub service_set : Ctc → RankSet
service_set c = intersected c.service four_ranks

-- the highest rank that waits, and the highest in service
abbrev pub top_waiting : Ctc → Option ℕ
top_waiting c = highest 16 (ranks (waiting_set c))

abbrev pub top_in_service : Ctc → Option ℕ
top_in_service c = highest 16 (ranks (service_set c))

-- bits 7 to 3 of the vector register head the vector, to which channel k adds 2 × k
abbrev pub vector_at : Ctc → ℕ → ℕ
vector_at c rank = c.vector / 8 * 8 + 2 * channel_ranked rank

abbrev pub new_ctc : ℕ → Ctc
new_ctc port = record { port = port; vector = 0; channels = new_channel ∷ new_channel ∷ new_channel ∷ new_channel ∷ []; waiting = no_ranks; service = no_ranks }

abbrev pub with_rank_sets : RankSet → RankSet → Ctc → Ctc
with_rank_sets w s c = record { port = c.port; vector = c.vector; channels = c.channels; waiting = w; service = s }

abbrev pub with_taken : ℕ → Ctc → Ctc
with_taken r c = with_rank_sets (removed r c.waiting) (inserted r c.service) c

abbrev pub with_ended : ℕ → Ctc → Ctc
with_ended r c = with_rank_sets c.waiting (removed r c.service) c

abbrev pub raised : ℕ → Ctc → Ctc
raised k c = with_rank_sets (inserted (rank_of k) c.waiting) c.service c

-- channel k becomes x, and w waits
abbrev pub with_channel : ℕ → Channel → RankSet → Ctc → Ctc
with_channel k x w c = record { port = c.port; vector = c.vector; channels = slice_set c.channels k x; waiting = w; service = c.service }

abbrev pub reset_at : ℕ → List Channel → List Channel
reset_at k l = slice_set l k (channel_reset (slice_index_or l k new_channel))

-- a reset clears the vector and both sets, and resets every channel
abbrev pub ctc_reset : Ctc → Ctc
ctc_reset c =
    record {
      port = c.port;
      vector = 0;
      channels = reset_at 3 (reset_at 2 (reset_at 1 (reset_at 0 c.channels)));
      waiting = no_ranks;
      service = no_ranks;
    }

-- channel k becomes x, and its request is raised (made to wait) or left
abbrev pub channel_became : ℕ → Channel → Bool → Ctc → Ctc
channel_became k x raises c = with_channel k x (cond raises (inserted (rank_of k) c.waiting) c.waiting) c

-- a step of channel k: it answers, and leaves of the channel, what 'step' allows, and the request is raised if the answer is true
abbrev pub StepsChannel : (Channel → Bool → Channel → Type 0) → ℕ → Ctc → Ctc → Type 0
StepsChannel step k c d = (raises : Bool) × (x : Channel) × step (channel_at k c) raises x × (d ≡ channel_became k x raises c)

-- a clock goes to every channel
abbrev pub clocked_at : ℕ → Ctc → Ctc
clocked_at k c = channel_became k (channel_clocked (channel_at k c)) (clock_raises (channel_at k c)) c

abbrev pub ctc_clocked : Ctc → Ctc
ctc_clocked c = clocked_at 3 (clocked_at 2 (clocked_at 1 (clocked_at 0 c)))

-- a call is refused off the card's ports
abbrev pub port_refusal : Ctc → ℕ → Option Refusal
port_refusal c port = cond (takes c port) None (Some PortNotTaken)

-- what a byte is to a channel: its constant, if it awaits one; else a control word, if bit 0 is set; else, on channel 0,
-- the head of the vector; on the others it is refused
abbrev pub role_of : ℕ → Bool → ℕ → Result Role Refusal
role_of channel awaits byte =
    cond awaits (Ok Constant)
    (cond (is_control_word byte) (Ok ControlWord)
    (cond (channel == 0) (Ok VectorHead)
    (Err ByteNotAwaited)))

abbrev pub role_in : Ctc → ℕ → ℕ → Result Role Refusal
role_in c port byte = role_of (channel_of port) (channel_at (channel_of port) c).awaits byte

-- a control word with bit 7 clear drops a waiting request
abbrev pub control_set : ℕ → ℕ → Ctc → Ctc
control_set k byte c =
    with_channel k (control_taken byte (channel_at k c)) (cond (bit byte 7) c.waiting (removed (rank_of k) c.waiting)) c

abbrev pub written_as : Role → ℕ → ℕ → Ctc → Ctc
written_as Constant k byte c = with_channel k (constant_taken byte (channel_at k c)) c.waiting c
written_as ControlWord k byte c = control_set k byte c
written_as VectorHead k byte c = record { port = c.port; vector = byte; channels = c.channels; waiting = c.waiting; service = c.service }

-- a byte that is nothing to the channel leaves the card as it was
abbrev pub written_if_any : Result Role Refusal → ℕ → ℕ → Ctc → Ctc
written_if_any (Ok role) k byte c = written_as role k byte c
written_if_any (Err why) k byte c = c

-- why a byte is refused, if it is nothing to the channel
abbrev pub why_refused : Result Role Refusal → Option Refusal
why_refused (Ok role) = None
why_refused (Err why) = Some why

abbrev pub write_refusal : Ctc → ℕ → ℕ → Option Refusal
write_refusal c port byte = cond (takes c port) (why_refused (role_in c port byte)) (Some PortNotTaken)

abbrev pub written : Ctc → ℕ → ℕ → Ctc
written c port byte = cond (takes c port) (written_if_any (role_in c port byte) (channel_of port) byte c) c

-- a read gives the counter, and moves nothing
abbrev pub read_refusal : Ctc → ℕ → Option Refusal
read_refusal c port = port_refusal c port

abbrev pub counter_at : Ctc → ℕ → ℕ
counter_at c port = (channel_at (channel_of port) c).stage.counter

-- line k is the trigger of channel k
abbrev pub line_refusal : Ctc → ℕ → ℕ → Option Refusal
line_refusal c port line = cond (takes c port) (cond (nat_lt 3 line) (Some NoSuchLine) None) (Some PortNotTaken)

abbrev pub line_changed_at : ℕ → Bool → Ctc → Ctc
line_changed_at k high c = channel_became k (line_changed high (channel_at k c)) (line_raises high (channel_at k c)) c

abbrev pub line_set : Ctc → ℕ → ℕ → Bool → Ctc
line_set c port line high = cond (takes c port) (cond (nat_lt 3 line) c (line_changed_at line high c)) c
