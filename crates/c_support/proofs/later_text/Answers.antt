-- `c_support::later_text` meets its contract: each arm has the text of its number in the list, and the last one that of a number that is not in it. A further
-- number is one more answer.
use Rattle.std.proofs.Common.{refl, rules}
use Rattle.c_support.specs.Words.{bytes_of, text_in}
use Rattle.c_support.specs.private.Texts.{later_words}
use Rattle.c_support.proofs.Texts.{text_at, text_else}
use Rattle.c_support.proofs.later_text.Goals as goal

pub returns-in-15 : goal.returns-in-15
unfolding bytes_of text_in later_words
returns-in-15 c = text_at later_words _ c.in-15.is refl c.filled.ensures

pub returns-in-16 : goal.returns-in-16
unfolding bytes_of text_in later_words
returns-in-16 c = text_at later_words _ c.in-16.is refl c.filled-in-16.ensures

pub returns-in-17 : goal.returns-in-17
unfolding bytes_of text_in later_words
returns-in-17 c = text_at later_words _ c.in-17.is refl c.filled-in-17.ensures

pub returns-in-18 : goal.returns-in-18
unfolding bytes_of text_in later_words
returns-in-18 c = text_at later_words _ c.in-18.is refl c.filled-in-18.ensures

pub returns-in-19 : goal.returns-in-19
unfolding bytes_of text_in later_words
returns-in-19 c = text_at later_words _ c.in-19.is refl c.filled-in-19.ensures

pub returns-in-20 : goal.returns-in-20
unfolding bytes_of text_in later_words
returns-in-20 c = text_at later_words _ c.in-20.is refl c.filled-in-20.ensures

pub returns-in-21 : goal.returns-in-21
unfolding bytes_of text_in later_words
returns-in-21 c = text_at later_words _ c.in-21.is refl c.filled-in-21.ensures

pub returns-in-22 : goal.returns-in-22
unfolding bytes_of text_in later_words
returns-in-22 c = text_at later_words _ c.in-22.is refl c.filled-in-22.ensures

pub returns-in-23 : goal.returns-in-23
unfolding bytes_of text_in later_words
returns-in-23 c = text_at later_words _ c.in-23.is refl c.filled-in-23.ensures

pub returns-in-24 : goal.returns-in-24
unfolding bytes_of text_in later_words
returns-in-24 c = text_at later_words _ c.in-24.is refl c.filled-in-24.ensures

pub returns-in-25 : goal.returns-in-25
unfolding bytes_of text_in later_words
returns-in-25 c = text_at later_words _ c.in-25.is refl c.filled-in-25.ensures

pub returns-in-26 : goal.returns-in-26
unfolding bytes_of text_in later_words
returns-in-26 c = text_at later_words _ c.in-26.is refl c.filled-in-26.ensures

pub returns-in-27 : goal.returns-in-27
unfolding bytes_of text_in later_words
returns-in-27 c = text_at later_words _ c.in-27.is refl c.filled-in-27.ensures

pub returns-in-28 : goal.returns-in-28
unfolding bytes_of text_in later_words
returns-in-28 c = text_at later_words _ c.in-28.is refl c.filled-in-28.ensures

pub returns-in-100 : goal.returns-in-100
unfolding bytes_of text_in later_words
returns-in-100 c = text_at later_words _ c.in-100.is refl c.filled-in-100.ensures

pub returns-in_default : goal.returns-in_default
unfolding bytes_of text_in later_words
returns-in_default c = text_else {n = c.args.number} _ (search rules) refl c.filled-in_default.ensures
