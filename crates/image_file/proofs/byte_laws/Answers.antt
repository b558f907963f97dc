use Rattle.image_file.proofs.Bytes.{byte_laws}
use Rattle.image_file.proofs.byte_laws.Goals as goal

pub returns : goal.returns
returns c = byte_laws
