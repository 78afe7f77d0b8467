use Rattle.ssi_identities.proofs.Bits.{bit_of_byte, byte_small}
use Rattle.ssi_identities.proofs.meaning.laws_of_bits.Goals as goal

pub returns-clause-bit : goal.returns-clause-bit
returns-clause-bit c = bit_of_byte

pub returns-clause-byte : goal.returns-clause-byte
returns-clause-byte c = byte_small
