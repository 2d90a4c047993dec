mod Elements
mod FieldTexts
