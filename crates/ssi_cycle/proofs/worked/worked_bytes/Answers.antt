use Rattle.std.proofs.Common.{true, false, Some, ap}
use Rattle.ssi_telegrams.specs.Telegram.{command_telegram_of}
use Rattle.ssi_cycle.specs.Worked.{one_track_is}
use Rattle.ssi_cycle.proofs.Examples.{byte_in}
use Rattle.ssi_cycle.proofs.worked.worked_bytes.Goals as goal

pub returns-clause-both : goal.returns-clause-both
returns-clause-both c = λ l1. byte_in (one_track_is false l1 true)

pub returns-clause-bit_0 : goal.returns-clause-bit_0
returns-clause-bit_0 c = λ l1. byte_in (one_track_is true l1 true)

pub returns-clause-bit_2 : goal.returns-clause-bit_2
returns-clause-bit_2 c = λ l1. byte_in (one_track_is false l1 false)

pub returns-clause-neither : goal.returns-clause-neither
returns-clause-neither c = λ l1. byte_in (one_track_is true l1 false)

pub returns-clause-telegram : goal.returns-clause-telegram
returns-clause-telegram c = λ l1. ap (λ byte. Some (command_telegram_of 5 byte)) (byte_in (one_track_is false l1 true))
