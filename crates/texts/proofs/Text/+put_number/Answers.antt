-- `texts::Text::put_number` meets its contract. Assumes nothing.
use Rattle.std.proofs.Common.{arith}
use Rattle.texts.proofs.Decimal.{number_more, number-one}
use Rattle.texts.proofs.Text.+put_number.Goals as goal

pub returns-then-n-lt10 : goal.returns-then-n-lt10
returns-then-n-lt10 t c = number-one c.if-n-lt10.true c.digit.ensures c.put_byte.ensures

pub returns : goal.returns
returns t c = number_more (omega arith) c.requires.1 c.put_number.ensures c.digit-2.ensures c.put_byte-2.ensures
