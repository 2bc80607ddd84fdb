mod Alike
mod FieldSteps
mod Refused
mod ResourceSteps
mod ThumbnailSteps
