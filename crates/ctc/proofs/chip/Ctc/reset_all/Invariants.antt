use Rattle.std.proofs.Common.{◌≡◌, ◌++◌, map, take, drop}
use Rattle.ctc_channel.specs.Channels.{channel_reset}
use Rattle.ctc.proofs.chip.Ctc.reset_all.Given as goal

-- the channels before the index are reset
abbrev pub invariant-loop-channel : goal.invariant-loop-channel
invariant-loop-channel l =
    take l.channel-index l.channel-items ++ map channel_reset (drop l.channel-index l.channel-items) ≡ map channel_reset l.fn.self.channels
